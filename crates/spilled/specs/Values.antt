-- The values of a cell with a gather buffer lent, each with the bytes that its place counts in: the database's where the
-- payload is whole, else the buffer's.
use Rattle.std.specs.Prelude.{ℕ, List, Err, Ok, Result}
use Rattle.reading.specs.declared.Reading.TheVariants.{File as file}
use Rattle.answers.specs.declared.Refusal.{Refusal}
use Rattle.record.specs.Record.{values_at}
use Rattle.columns.specs.Columns.{slot_in}
use Rattle.place.specs.Place.{file_page}
use Rattle.row.specs.Column.{slot_then, column_by}
use Rattle.row_values.specs.File.{shown_by}
use Rattle.spills.specs.declared.Source.{Source}
use Rattle.spills.specs.declared.Source.TheVariants.{Database, Buffer}
use Rattle.spilled.specs.Lent.{Spilled, Lent, whole, gathered, lent_of}
use Rattle.columns.specs.declared.Slot.{Slot}
use Rattle.spilled.specs.declared.ValueIn.{ValueIn}
use Rattle.values.specs.declared.file.Value.{Value}

-- a value, and the bytes that its place counts in
abbrev pub value_from : Value → Source → Result ValueIn Refusal
value_from value source = Ok (record { value = value; source = source })

-- column k of a spilled cell, in its payload
abbrev pub column_in : ℕ → Spilled → Result Slot Refusal
column_in k c =
    slot_then c.page (slot_in k (values_at file c.cell.header) c.cell.payload c.cell.types)

abbrev pub from : Source → Result Value Refusal → Result ValueIn Refusal
from source (Err refusal) = Err refusal
from source (Ok value) = value_from value source

abbrev pub value_by : ℕ → List ℕ → Result Lent Refusal → Result ValueIn Refusal
value_by k db (Err refusal) = Err refusal
value_by k db (Ok (whole l)) = from Database (shown_by db (column_by k (Ok l)))
value_by k db (Ok (gathered c)) = from Buffer (shown_by c.payload (column_in k c))

-- column k of cell i of the page of that number
unfoldable pub value_of : ℕ → ℕ → ℕ → ℕ → List ℕ → Result ValueIn Refusal
value_of number i k room db = value_by k db (lent_of (file_page number) i room db)
