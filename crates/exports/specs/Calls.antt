-- What the exported calls answer: the readers' definitions, turned.
use Rattle.std.specs.Prelude.{ℕ, List, eqb, ℤ, Result}
use Rattle.laws.specs.Pick.{pick}
use Rattle.reading.specs.declared.Reading.TheVariants.{Old, File}
use Rattle.answers.specs.declared.Refusal.{Refusal}
use Rattle.header.specs.Header as header
use Rattle.place.specs.Place.{old_page, file_page}
use Rattle.shape.specs.Shape.{shape_of}
use Rattle.page.specs.Open as page
use Rattle.cells.specs.Located.{Located, located_of}
use Rattle.walk.specs.Counted.{count_of}
use Rattle.trust.specs.Trust.{trusted_count}
use Rattle.listing.specs.Listed.{list_of, trusted_of, list_in}
use Rattle.table.specs.declared.Entry.{Entry}
use Rattle.table.specs.Entry.{entry_for, filled}
use Rattle.table.specs.Page as table
use Rattle.row.specs.Found.{found_by}
use Rattle.row_head.specs.Head.{shortest_by}
use Rattle.row_values.specs.Old as old
use Rattle.row_values.specs.File as file
use Rattle.guarded.specs.Guarded as guarded
use Rattle.spilled.specs.Lent.{Lent}
use Rattle.spilled.specs.Values as spilled
use Rattle.marked.specs.Marked as marked
use Rattle.usual.specs.Usual as usual
use Rattle.turns.specs.declared.types.Header.{Header}
use Rattle.turns.specs.declared.types.Pages.{Pages}
use Rattle.turns.specs.declared.types.Listed.{Listed}
use Rattle.turns.specs.declared.types.PageHead.{PageHead}
use Rattle.turns.specs.declared.types.Opened.{Opened}
use Rattle.turns.specs.declared.types.Opening.{Opening}
use Rattle.turns.specs.declared.types.Along.{Along}
use Rattle.turns.specs.declared.types.Cell.{Cell}
use Rattle.turns.specs.declared.types.Shown.{Shown}
use Rattle.turns.specs.declared.types.LentValue.{LentValue}
use Rattle.asked.specs.Asked.{number_of, reading_by, page_by}
use Rattle.pages.specs.Pages.{header_by, pages_by, listed_by, head_by, opening_by, open_by}
use Rattle.turns.specs.Rows.{cursor_of, cell_by}
use Rattle.turns.specs.Shown.{old_shown, file_shown}
use Rattle.sources.specs.Lent.{lent_shown}
use Rattle.run.specs.Run.{Run, run_from}
use Rattle.gathered.specs.Rows.{lent_in}
use Rattle.page.specs.declared.Open.{Open}
use Rattle.usual.specs.declared.Row.{Row}

-- THE DATABASE AND ITS PAGES

abbrev pub header_of : ℕ → List ℕ → Header
header_of reading db = header_by (header.header_of (reading_by reading) db)

abbrev pub pages_of : ℕ → List ℕ → Pages
pages_of reading db = pages_by (shape_of (reading_by reading) db)

-- ALL ROWS OF A TABLE, by its root page

abbrev pub counted_rows : ℕ → List ℕ → Listed
counted_rows root db = listed_by (count_of root db)

-- where a list of so many places is lent
abbrev pub listed_rows : ℕ → ℕ → List ℕ → Listed
listed_rows places root db = listed_by (list_of places root db)

abbrev pub rows_over : ℕ → ℕ → List ℕ → List ℤ → List ℤ
rows_over places root db list = list_in (list_of places root db) root db list

-- of one that both may trust
abbrev pub counted_trusted : ℕ → List ℕ → Listed
counted_trusted root db = listed_by (trusted_count root db)

abbrev pub listed_trusted : ℕ → ℕ → List ℕ → Listed
listed_trusted places root db = listed_by (trusted_of places root db)

abbrev pub trusted_over : ℕ → ℕ → List ℕ → List ℤ → List ℤ
trusted_over places root db list = list_in (trusted_of places root db) root db list

-- A PAGE

-- where a table of `room` entries is lent
abbrev pub head_of : ℕ → ℕ → ℕ → List ℕ → PageHead
head_of reading number room db = head_by (table.page_of (page_by reading number) room db)

abbrev pub page_opened : ℕ → ℕ → List ℕ → Result Open Refusal
page_opened reading number db = page.open_of (page_by reading number) db

-- the entry of cell i, and a table in which the first n are filled
abbrev pub entry_of : ℕ → ℕ → ℕ → List ℕ → Entry
entry_of reading number i db = entry_for (page_opened reading number db) db i

abbrev pub entries_over : ℕ → ℕ → List ℕ → ℕ → List Entry → List Entry
entries_over reading number db n ys = filled (page_opened reading number db) db n ys

-- A PAGE THAT IS OPENED

-- in the guarded reading where its number is 2
abbrev pub opening_of : ℕ → ℕ → List ℕ → Opening
opening_of reading number db =
    pick (eqb reading 2) (opening_by reading (guarded.open_of number db))
    (opening_by (number_of (reading_by reading)) (page_opened reading number db))

-- cell i of it
abbrev pub row_in : Opened → ℕ → List ℕ → Result Row Refusal
row_in opened i db = usual.row_in (eqb opened.reading 2) (open_by opened) i db

-- ONE CELL

-- located or refused
abbrev pub cell_for : Result Located Refusal → Cell
cell_for x = cell_by (found_by x) (shortest_by x)

abbrev pub old_cell : ℕ → ℕ → List ℕ → Cell
old_cell number i db = cell_for (located_of (old_page number) i db)

abbrev pub file_cell : ℕ → ℕ → List ℕ → Cell
file_cell number i db = cell_for (located_of (file_page number) i db)

abbrev pub guarded_cell : ℕ → ℕ → List ℕ → Cell
guarded_cell number i db = cell_for (guarded.located_of number i db)

-- ITS VALUES

abbrev pub old_run : Along → ℕ → List ℕ → Run
old_run a places db = run_from places (cursor_of Old a) db

abbrev pub file_run : Along → ℕ → List ℕ → Run
file_run a places db = run_from places (cursor_of File a) db

abbrev pub old_shown_of : ℕ → ℕ → ℕ → List ℕ → Shown
old_shown_of number i k db = old_shown (old.shown_of number i k db)

abbrev pub file_shown_of : ℕ → ℕ → ℕ → List ℕ → Shown
file_shown_of number i k db = file_shown (file.shown_of number i k db)

abbrev pub guarded_shown_of : ℕ → ℕ → ℕ → List ℕ → Shown
guarded_shown_of number i k db = file_shown (guarded.shown_of number i k db)

-- WITH A GATHER BUFFER of so many bytes lent

abbrev pub file_lent_of : ℕ → ℕ → ℕ → ℕ → List ℕ → LentValue
file_lent_of number i k room db = lent_shown (spilled.value_of number i k room db)

abbrev pub guarded_lent_of : ℕ → ℕ → ℕ → ℕ → List ℕ → LentValue
guarded_lent_of number i k room db = lent_shown (marked.value_of number i k room db)

-- cell i of an opened page, in the page's reading
abbrev pub cell_lent : Opened → ℕ → ℕ → List ℕ → Result Lent Refusal
cell_lent opened i room db = lent_in (eqb opened.reading 2) (open_by opened) i room db
