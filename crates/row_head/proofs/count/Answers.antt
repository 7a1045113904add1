-- The cell that is found tells what the one that is located has.
use mathlib.Core.Path.{◌∙◌}
use Rattle.cells.specs.Located.{located_of}
use Rattle.row.proofs.Placed.{placed}
use Rattle.row_head.specs.Head.{count_of}
use Rattle.row_head.proofs.Told.{count-found}
use Rattle.row_head.proofs.count.Goals as goal

pub returns : goal.returns
unfolding count_of
returns c =
    let a = c.args in
    (rw c.found.ensures at c.count_of.ensures) ∙ count-found a.db.now (located_of a.page a.i a.db.now) (λ l e. placed a.page a.i a.db.now e)
