-- What is shown lies in the database.
use mathlib.Core.Path.{ap, ◌∙◌}
use lib.ListN.{length}
use Rattle.row_values.specs.File.{shown_by}
use Rattle.spills.specs.declared.Source.TheVariants.{Database}
use Rattle.spilled.specs.Values.{from}
use Rattle.marked.specs.Marked.{value_of}
use Rattle.marked.proofs.Guarded.{lent-column}
use Rattle.marked.proofs.value.Goals as goal

pub returns-clause-answer : goal.returns-clause-answer
unfolding value_of
returns-clause-answer c =
    let a = c.args in
    let e = (rw c.found.ensures.answer at c.column_of-column.ensures) ∙ lent-column a.k a.number a.i (length a.buffer.now) a.db.now in
    c.shown_from.ensures ∙ ap (from Database) (c.shown.ensures ∙ ap (shown_by a.db.now) e)
