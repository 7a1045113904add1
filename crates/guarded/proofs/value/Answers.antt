-- Along the cursor is the column of the definition.
use mathlib.Core.Path.{ap, ◌∙◌}
use Rattle.row_values.specs.File.{shown_by}
use Rattle.guarded.specs.Guarded.{shown_of}
use Rattle.guarded.proofs.Along.{found-column}
use Rattle.guarded.proofs.value.Goals as goal

pub returns : goal.returns
unfolding shown_of
returns c =
    let a = c.args in
    let e = (rw c.found.ensures at c.column_of.ensures) ∙ found-column a.k a.number a.i a.db.now in
    c.shown.ensures ∙ ap (shown_by a.db.now) e
