-- The guarded reading with a gather buffer lent. It shows a cell on its page alone: a spilled one that the file reading
-- accepts has a mark, the fifth if it has no lower one, for the old reading never looks at a chain.
use Rattle.std.specs.Prelude.{ℕ, List, length, Err, Ok, Result}
use Rattle.answers.specs.declared.Fault.TheVariants as fa
use Rattle.answers.specs.declared.Refusal.{Refusal}
use Rattle.answers.specs.declared.Refusal.TheVariants.{InCell}
use Rattle.answers.specs.Answer.{◌>>=◌}
use Rattle.marks.specs.Marks.{mark_of, or_spilled}
use Rattle.page.specs.declared.Open.{Open}
use Rattle.cells.specs.Located.{Located}
use Rattle.chain.specs.Gathered.{gathered_in}
use Rattle.row.specs.Column.{column_by}
use Rattle.row_values.specs.File.{shown_by}
use Rattle.guarded.specs.Guarded as guarded
use Rattle.spills.specs.declared.Source.TheVariants.{Database}
use Rattle.spilled.specs.Lent.{Spilled, spilled_in, instead, buffer_after}
use Rattle.spilled.specs.Values.{from}
use Rattle.spilled.specs.declared.ValueIn.{ValueIn}

-- why a spilled cell i is refused: as the file reading refuses it, or with its mark
abbrev pub marked_by : ℕ → Result Spilled Refusal → Refusal
marked_by i (Err refusal) = refusal
marked_by i (Ok c) = InCell c.page.number i (fa.Marked (or_spilled (mark_of c.cell)))

unfoldable pub marked_in : Open → ℕ → ℕ → List ℕ → Refusal
marked_in o i room db = marked_by i (spilled_in o i room db)

-- cell i of an opened page
unfoldable pub lent_in : Open → ℕ → ℕ → List ℕ → Result Located Refusal
lent_in o i room db = instead (λ l. l) (Err (marked_in o i room db)) (guarded.located_in o i db)

unfoldable pub buffer_in : Open → ℕ → List ℕ → List ℕ → List ℕ
buffer_in o i db buffer = buffer_after (guarded.located_in o i db) (gathered_in o i (length buffer) db) buffer

-- cell i of the page of that number
unfoldable pub lent_of : ℕ → ℕ → ℕ → List ℕ → Result Located Refusal
lent_of number i room db = do
  o ← guarded.open_of number db
  lent_in o i room db

abbrev pub buffer_on : Result Open Refusal → ℕ → List ℕ → List ℕ → List ℕ
buffer_on (Err refusal) i db buffer = buffer
buffer_on (Ok o) i db buffer = buffer_in o i db buffer

unfoldable pub buffer_of : ℕ → ℕ → List ℕ → List ℕ → List ℕ
buffer_of number i db buffer = buffer_on (guarded.open_of number db) i db buffer

-- column k of the cell
unfoldable pub value_of : ℕ → ℕ → ℕ → ℕ → List ℕ → Result ValueIn Refusal
value_of number i k room db = from Database (shown_by db (column_by k (lent_of number i room db)))
