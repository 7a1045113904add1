-- What is asked of one cell beside its values: its column count, its row number or key, and with each whether all varints that the
-- reading took from the cell are in their shortest form.
use Rattle.std.specs.Prelude.{ℕ, List, Bool, false, Err, Ok, Result, ℤ}
use Rattle.answers.specs.declared.Refusal.{Refusal}
use Rattle.record.specs.Types.{count}
use Rattle.shortest_cells.specs.Cells.{cell_shortest, told_shortest}
use Rattle.columns.specs.Columns.{types_at}
use Rattle.place.specs.declared.Page.{Page}
use Rattle.cells.specs.Located.{Located, row_number, located_of}
use Rattle.row.specs.declared.FoundCell.{FoundCell}
use Rattle.row_head.specs.declared.ColumnCount.{ColumnCount}
use Rattle.row_head.specs.declared.RowNumber.{RowNumber}

-- so many columns
abbrev pub count_told : ℕ → Bool → Result ColumnCount Refusal
count_told columns shortest = Ok (record { columns = columns; shortest = shortest })

-- a row number
abbrev pub row_told : ℤ → Bool → Result RowNumber Refusal
row_told number shortest = Ok (record { number = number; shortest = shortest })

abbrev pub count_by : Result Located Refusal → Result ColumnCount Refusal
count_by (Err refusal) = Err refusal
count_by (Ok l) = count_told (count l.cell.types) (cell_shortest l.cell)

unfoldable pub count_of : Page → ℕ → List ℕ → Result ColumnCount Refusal
count_of page i db = count_by (located_of page i db)

abbrev pub row_by : Result Located Refusal → Result RowNumber Refusal
row_by (Err refusal) = Err refusal
row_by (Ok l) = row_told (row_number l.cell.row.value) (cell_shortest l.cell)

unfoldable pub row_of : Page → ℕ → List ℕ → Result RowNumber Refusal
row_of page i db = row_by (located_of page i db)

-- whether the varints of a cell are in their shortest form; not those of one that is refused
abbrev pub shortest_by : Result Located Refusal → Bool
shortest_by (Err refusal) = false
shortest_by (Ok l) = cell_shortest l.cell

-- THE SAME OF A CELL THAT WAS FOUND, as the code has it: its types are those before its cursor

abbrev pub shortest_in : FoundCell → List ℕ → Bool
shortest_in f db = told_shortest f.cell (types_at f.cursor db)

abbrev pub shortest_for : Result FoundCell Refusal → List ℕ → Bool
shortest_for (Err refusal) db = false
shortest_for (Ok f) db = shortest_in f db

abbrev pub count_for : Result FoundCell Refusal → List ℕ → Result ColumnCount Refusal
count_for (Err refusal) db = Err refusal
count_for (Ok f) db = count_told f.cell.columns (shortest_in f db)

abbrev pub row_for : Result FoundCell Refusal → List ℕ → Result RowNumber Refusal
row_for (Err refusal) db = Err refusal
row_for (Ok f) db = row_told (row_number f.cell.row.value) (shortest_in f db)
