-- The row of a cell, as the plain form finds it.
use Rattle.std.specs.Prelude.{ℕ, List, Bool, true, false, Err, Ok, Result}
use Rattle.page.specs.declared.Open.{Open}
use Rattle.cells.specs.Located as cells
use Rattle.row.specs.Found.{found_by}
use Rattle.guarded.specs.Guarded as guarded
use Rattle.answers.specs.declared.Refusal.{Refusal}
use Rattle.row.specs.declared.FoundCell.{FoundCell}
use Rattle.usual.specs.declared.Row.{Row}
use Rattle.columns.specs.declared.Cursor.{Cursor}

-- a row
abbrev pub row_with : ℕ → ℕ → Cursor → Result Row Refusal
row_with number columns cursor = Ok (record { number = number; columns = columns; cursor = cursor })

-- cell i of a page that is open, in the guarded reading or in that of the page
abbrev pub found_in : Bool → Open → ℕ → List ℕ → Result FoundCell Refusal
found_in true o i db = found_by (guarded.located_in o i db)
found_in false o i db = found_by (cells.located_in o i db)

abbrev pub row_by : Result FoundCell Refusal → Result Row Refusal
row_by (Err refusal) = Err refusal
row_by (Ok f) = row_with f.cell.row.value f.cell.columns f.cursor

unfoldable pub row_in : Bool → Open → ℕ → List ℕ → Result Row Refusal
row_in g o i db = row_by (found_in g o i db)
