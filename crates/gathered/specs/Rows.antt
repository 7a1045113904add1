-- A row at once with a gather buffer lent: what is answered, and what the lent table and the buffer then hold.
use Rattle.std.specs.Prelude.{ℕ, List, Bool, true, false, ℤ, Err, Ok, Result}
use Rattle.answers.specs.declared.Refusal.{Refusal}
use Rattle.answers.specs.Answer.{◌>>=◌}
use Rattle.record.specs.Types.{count}
use Rattle.cell.specs.Cell.{Cell}
use Rattle.page.specs.declared.Open.{Open}
use Rattle.row.specs.declared.FoundCell.{FoundCell}
use Rattle.row.specs.Found.{cursor_in}
use Rattle.spilled.specs.Lent as file
use Rattle.spilled.specs.Lent.{Lent, whole, gathered, cursor_over}
use Rattle.marked.specs.Marked as marked
use Rattle.turns.specs.declared.types.Row.{Row}
use Rattle.turns.specs.declared.types.LentRow.{LentRow}
use Rattle.turns.specs.Rows.{no_row, row_of}
use Rattle.sources.specs.Lent.{lent_row}
use Rattle.spills.specs.declared.Source.{Source}
use Rattle.spills.specs.declared.Source.TheVariants.{Database, Buffer}
use Rattle.run.specs.Run.{Run, run_from, filled_by, over}

-- cell i of an opened page, in the guarded reading or in that of the page, with a buffer of so many bytes
abbrev pub lent_in : Bool → Open → ℕ → ℕ → List ℕ → Result Lent Refusal
lent_in true o i room db = marked.lent_in o i room db >>= (λ l. Ok (whole l))
lent_in false o i room db = file.lent_in o i room db

-- the values of a cell along its cursor, as many as a table has places
abbrev pub row_with : Cell → Run → Row
row_with c values = row_of c.row.value (count c.types) (filled_by values)

abbrev pub row_lent : ℕ → List ℕ → Result Lent Refusal → LentRow
row_lent places db (Err refusal) = lent_row (no_row refusal) Database
row_lent places db (Ok (whole l)) = lent_row (row_with l.cell (run_from places (cursor_in l) db)) Database
row_lent places db (Ok (gathered c)) =
    lent_row (row_with c.cell (run_from places (cursor_over c.cell) c.payload)) Buffer

-- WHAT IS LENT

-- the table: the values over its first words, or as it was
abbrev pub table_lent : ℕ → List ℕ → Result Lent Refusal → List ℤ → List ℤ
table_lent places db (Err refusal) table = table
table_lent places db (Ok (whole l)) table = over (run_from places (cursor_in l) db) table
table_lent places db (Ok (gathered c)) table = over (run_from places (cursor_over c.cell) c.payload) table

abbrev pub buffer_lent : Bool → Open → ℕ → List ℕ → List ℕ → List ℕ
buffer_lent true o i db buffer = marked.buffer_in o i db buffer
buffer_lent false o i db buffer = file.buffer_in o i db buffer

-- AS THE CODE HAS IT: a cell that was found, in the bytes that its cursor counts in

abbrev pub row_from : ℕ → List ℕ → FoundCell → Source → LentRow
row_from places bytes f source = lent_row (row_of f.cell.row.value f.cell.columns (filled_by (run_from places f.cursor bytes))) source

abbrev pub table_from : ℕ → List ℕ → FoundCell → List ℤ → List ℤ
table_from places bytes f table = over (run_from places f.cursor bytes) table
