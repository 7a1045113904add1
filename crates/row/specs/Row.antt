-- The cursor before the first column of one cell.
use Rattle.std.specs.Prelude.{ℕ, List, Err, Ok, Result}
use Rattle.place.specs.declared.Page.{Page}
use Rattle.cells.specs.Located.{located_of}
use Rattle.row.specs.Found.{found_by}
use Rattle.answers.specs.declared.Refusal.{Refusal}
use Rattle.columns.specs.declared.Cursor.{Cursor}
use Rattle.row.specs.declared.FoundCell.{FoundCell}

abbrev pub cursor_by : Result FoundCell Refusal → Result Cursor Refusal
cursor_by (Err refusal) = Err refusal
cursor_by (Ok f) = Ok f.cursor

unfoldable pub cursor_of : Page → ℕ → List ℕ → Result Cursor Refusal
cursor_of page i db = cursor_by (found_by (located_of page i db))
