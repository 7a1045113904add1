-- What calls answer that are lent a gather buffer, as C has it.
use Rattle.std.specs.Prelude.{ℕ, Err, Ok, Result}
use Rattle.answers.specs.declared.Refusal.{Refusal}
use Rattle.values.specs.declared.file.Value.{Value}
use Rattle.spills.specs.declared.Source.{Source}
use Rattle.spills.specs.declared.Source.TheVariants.{Database, Buffer}
use Rattle.turns.specs.declared.types.Row.{Row}
use Rattle.turns.specs.declared.types.LentRow.{LentRow}
use Rattle.turns.specs.declared.types.LentValue.{LentValue}
use Rattle.turns.specs.Refusals.{accepted, refused_by}
use Rattle.turns.specs.Shown.{empty, file_value}
use Rattle.spilled.specs.declared.ValueIn.{ValueIn}

-- the bytes that a place counts in
abbrev pub source_of : Source → ℕ
source_of Database = 0
source_of Buffer = 1

abbrev pub lent_row : Row → Source → LentRow
lent_row row source = record { row = row; source = source_of source }

abbrev pub lent_none : Refusal → LentValue
lent_none refusal = record { refused = refused_by refusal; value = empty; source = 0 }

abbrev pub lent_value : Value → Source → LentValue
lent_value value source = record { refused = accepted; value = file_value value; source = source_of source }

abbrev pub lent_shown : Result ValueIn Refusal → LentValue
lent_shown (Err refusal) = lent_none refusal
lent_shown (Ok v) = lent_value v.value v.source
