-- The numbers first; what follows them, where the kind has a payload.
use mathlib.Core.Path.{sym, ◌∙◌}
use native.Mathlib.Omega.{arith}
use Rattle.std.proofs.lemmas.Result.{err_from_is_err_and}
use Rattle.laws.proofs.Parts.{tail}
use Rattle.cell.specs.Cell.{cell_of}
use Rattle.cell.proofs.Laws.{numbered}
use Rattle.cell.proofs.Inside.{none-begin}
use Rattle.cell.proofs.cell_of.Goals as goal

pub returns-in_err-numbers : goal.returns-in_err-numbers
unfolding cell_of
returns-in_err-numbers c =
    let p = err_from_is_err_and c.from_residual.result c.from_residual.ensures.1 in
    rw (p.1, p.2, sym c.numbers_of.ensures ∙ c.in_err-numbers.was)

pub slice_bounds-behind_of-count : goal.slice_bounds-behind_of-count
slice_bounds-behind_of-count c =
    let l = (numbered c.args.reading c.args.kind c.args.s.now (sym c.numbers_of.ensures ∙ c.in_ok-numbers.was)).within in omega arith

pub slice_bounds-behind_of-start : goal.slice_bounds-behind_of-start
slice_bounds-behind_of-start c =
    let l = (numbered c.args.reading c.args.kind c.args.s.now (sym c.numbers_of.ensures ∙ c.in_ok-numbers.was)).within in omega arith

pub returns-then-has_size : goal.returns-then-has_size
unfolding cell_of
returns-then-has_size c =
    rw (sym c.numbers_of.ensures ∙ c.in_ok-numbers.was, sym c.has_size.ensures ∙ c.if-has_size.true) (rw (tail _ _) at c.behind_of.ensures)

pub returns : goal.returns
unfolding cell_of
returns c =
    rw (sym c.numbers_of.ensures ∙ c.in_ok-numbers.was, sym c.has_size.ensures ∙ c.if-has_size.false, none-begin c.args.reading)
