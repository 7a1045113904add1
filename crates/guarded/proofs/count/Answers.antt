-- The cell that is found tells what the one that is located has.
use mathlib.Core.Path.{◌∙◌}
use Rattle.row_head.proofs.Told.{count-found}
use Rattle.guarded.specs.Guarded.{located_of, count_of}
use Rattle.guarded.proofs.Guard.{guarded-placed}
use Rattle.guarded.proofs.count.Goals as goal

pub returns : goal.returns
unfolding count_of
returns c =
    let a = c.args in
    (rw c.found.ensures at c.count_of.ensures) ∙ count-found a.db.now (located_of a.number a.i a.db.now) (λ l e. guarded-placed a.number a.i a.db.now e)
