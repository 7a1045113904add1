-- At every turn the cells to come are as sound as all of them are.
use mathlib.Core.Path.{sym, ◌∙◌}
use Rattle.std.proofs.lemmas.Result.{err_from_is_err_and}
use Rattle.cells.specs.Located.{located_in}
use Rattle.cells.proofs.Laws.{kept, located-unanswered}
use Rattle.sound.proofs.Laws.{cells-sound, cells-next, cells-stop}
use Rattle.sound.proofs.check_cells.Goals as goal

pub returns-in_err-cell_in : goal.returns-in_err-cell_in
returns-in_err-cell_in c =
    let a = c.args in
    let h = c.loop-i in
    let p = err_from_is_err_and c.from_residual.result c.from_residual.ensures.1 in
    let e = located-unanswered (located_in a.opened h.i a.db.now) (sym c.cell_in.ensures ∙ c.in_err-cell_in.was) in
    rw (p.1, p.2) (sym (cells-stop a.opened a.db.now a.opened.cells h.i c.loop-i-test.true e) ∙ h.invariant)

pub loop-i-preserved : goal.loop-i-preserved
loop-i-preserved c =
    let a = c.args in
    let h = c.loop-i in
    let e = (kept (located_in a.opened h.i a.db.now) (sym c.cell_in.ensures ∙ c.in_ok-cell_in.was)).is in
    sym (cells-next a.opened a.db.now a.opened.cells h.i c.loop-i-test.true e) ∙ h.invariant

pub returns : goal.returns
returns c =
    let a = c.args in
    let h = c.loop-i in
    sym (cells-sound a.opened a.db.now a.opened.cells h.i c.loop-i-test.false) ∙ h.invariant
