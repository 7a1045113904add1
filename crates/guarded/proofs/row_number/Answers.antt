-- The cell that is found tells what the one that is located has.
use mathlib.Core.Path.{◌∙◌}
use Rattle.row_head.proofs.Told.{row-found}
use Rattle.guarded.specs.Guarded.{located_of, row_of}
use Rattle.guarded.proofs.Guard.{guarded-placed}
use Rattle.guarded.proofs.row_number.Goals as goal

pub returns : goal.returns
unfolding row_of
returns c =
    let a = c.args in
    (rw c.found.ensures at c.row_number_of.ensures) ∙ row-found a.db.now (located_of a.number a.i a.db.now) (λ l e. guarded-placed a.number a.i a.db.now e)
