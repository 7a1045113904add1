-- Along the cursor is the column of the definition.
use mathlib.Core.Path.{◌∙◌}
use Rattle.row.proofs.Placed.{found-column}
use Rattle.row.proofs.column.Goals as goal

pub returns : goal.returns
returns c =
    let a = c.args in
    (rw c.found.ensures at c.column_of.ensures) ∙ found-column a.k a.page a.i a.db.now
