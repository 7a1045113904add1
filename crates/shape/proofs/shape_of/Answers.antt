-- The header's answer decides.
use mathlib.Core.Path.{sym, ◌∙◌}
use Rattle.std.proofs.lemmas.Result.{err_from_is_err_and}
use Rattle.shape.specs.Shape.{shape_of}
use Rattle.shape.proofs.shape_of.Goals as goal

pub returns-in_err-sizes : goal.returns-in_err-sizes
unfolding shape_of
returns-in_err-sizes c =
    let p = err_from_is_err_and c.from_residual.result c.from_residual.ensures.1 in
    rw (p.1, p.2, sym c.sizes_of.ensures ∙ c.in_err-sizes.was)

pub returns : goal.returns
unfolding shape_of
returns c =
    rw (sym c.sizes_of.ensures ∙ c.in_ok-sizes.was, c.min.ensures, c.count_of-pages.ensures, c.whole_pages-whole.ensures)
