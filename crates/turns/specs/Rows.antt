-- Cells and rows as C has them, and a cursor along a row.
use Rattle.std.specs.Prelude.{ℕ, Bool, true, false, pos, Err, Ok, Result}
use Rattle.reading.specs.declared.Reading.{Reading}
use Rattle.answers.specs.declared.Refusal.{Refusal}
use Rattle.columns.specs.declared.Cursor.{Cursor}
use Rattle.cells.specs.Located.{row_number}
use Rattle.turns.specs.declared.types.Along.{Along}
use Rattle.turns.specs.declared.types.Filled.{Filled}
use Rattle.turns.specs.declared.types.Cell.{Cell}
use Rattle.turns.specs.declared.types.Row.{Row}
use Rattle.turns.specs.Refusals.{accepted, refused_by}
use Rattle.row.specs.declared.FoundCell.{FoundCell}

-- CURSORS

abbrev pub nowhere : Along
nowhere = record { at = 0; stop = 0; value = 0; end = 0 }

abbrev pub along_of : Cursor → Along
along_of c = record { at = c.at; stop = c.stop; value = c.value; end = c.end }

-- of the reading whose call it is handed to
abbrev pub cursor_of : Reading → Along → Cursor
cursor_of reading a = record { reading = reading; at = a.at; stop = a.stop; value = a.value; end = a.end }

abbrev pub filled_of : ℕ → Cursor → Filled
filled_of n c = record { count = n; along = along_of c }

-- CELLS AND ROWS

abbrev pub digit_of : Bool → ℕ
digit_of true = 1
digit_of false = 0

-- a cell of that row number and so many columns, and whether its varints are in their shortest form
abbrev pub cell_of : ℕ → ℕ → Cursor → ℕ → Cell
cell_of number columns c shortest =
    record { refused = accepted; row = row_number number; columns = columns; along = along_of c; shortest = shortest }

abbrev pub no_cell : Refusal → Cell
no_cell refusal = record { refused = refused_by refusal; row = pos 0; columns = 0; along = nowhere; shortest = 0 }

abbrev pub cell_by : Result FoundCell Refusal → Bool → Cell
cell_by (Err refusal) shortest = no_cell refusal
cell_by (Ok f) shortest = cell_of f.cell.row.value f.cell.columns f.cursor (digit_of shortest)

abbrev pub no_row : Refusal → Row
no_row refusal = record { refused = refused_by refusal; number = pos 0; columns = 0; count = 0; along = nowhere }

-- a row of that number, and what a table was filled with of it
abbrev pub row_of : ℕ → ℕ → Filled → Row
row_of number columns filled =
    record { refused = accepted; number = row_number number; columns = columns; count = filled.count; along = filled.along }
