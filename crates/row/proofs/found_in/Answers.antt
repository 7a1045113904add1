-- A located cell lies in the bytes.
use mathlib.Core.Path.{sym, ap, ◌∙◌}
use Rattle.std.specs.Prelude.{Ok}
use Rattle.cells.specs.declared.Located as dl
use Rattle.cells.specs.Located.{located_in}
use Rattle.cells.proofs.Laws.{kept}
use Rattle.row.specs.Found.{cursor_for}
use Rattle.row.proofs.Placed.{lying, found-told}
use Rattle.row.proofs.found_in.Goals as goal

pub cursor_in-requires : goal.cursor_in-requires
cursor_in-requires c =
    let a = c.args in
    let t = kept (located_in a.opened a.i a.db.now) (sym c.cell_in.ensures ∙ c.in_ok-located.was) in
    rw (← t.same) (lying _ _ _ t.is)

pub returns : goal.returns
returns c =
    let a = c.args in
    let o = a.opened in
    let t = kept (located_in o a.i a.db.now) (sym c.cell_in.ensures ∙ c.in_ok-located.was) in
    let same = ap (λ (x : dl.Located). Ok (record { page = o.page; cell = x.cell; cursor = cursor_for o x })) t.same in
    rw (t.is, c.cursor_in.ensures) (sym (found-told o _ _ t.is ∙ same))
