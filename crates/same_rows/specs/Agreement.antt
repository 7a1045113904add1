-- THEOREMS: a row that is answered with its values in a lent table is what single calls answer. On a page that is opened, the
-- call on its cell has the same row number, column count and cursor, or refuses it with the same refusal; and each place of
-- the table that a column of the row has holds, in five words, the value that the call on this column shows. There are as many
-- values as the row has columns, or as the table has places.
use Rattle.std.specs.Prelude.{ℕ, ◌*◌, ◌<◌, ◌≡◌, List, ltb, eqb, ℤ, take, drop, Err, Ok, Result}
use Rattle.laws.specs.Pick.{pick}
use Rattle.columns.specs.declared.Cursor.{Cursor}
use Rattle.turns.specs.declared.types.Opened.{Opened}
use Rattle.turns.specs.declared.types.Cell.{Cell}
use Rattle.turns.specs.declared.types.Shown.{Shown}
use Rattle.turns.specs.Refusals.{accepted}
use Rattle.turns.specs.Rows.{no_cell, cell_of}
use Rattle.turns.specs.Words.{words_of}
use Rattle.filled.specs.Row.{row_by, row_over}
use Rattle.exports.specs.Calls.{opening_of, row_in, old_cell, file_cell, guarded_cell, old_shown_of, file_shown_of, guarded_shown_of}
use Rattle.answers.specs.declared.Refusal.{Refusal}
use Rattle.usual.specs.Usual.{row_with}
use Rattle.usual.specs.declared.Row.{Row}

-- SINGLE CALLS, by the number of the reading: 0 is old, 2 guarded, any other number file

abbrev pub by_reading : {A : Type 0} → ℕ → A → A → A → A
by_reading reading in_old in_guarded in_file = pick (eqb reading 0) in_old (pick (eqb reading 2) in_guarded in_file)

-- cell i of the page of that number
abbrev pub cell_in : ℕ → ℕ → ℕ → List ℕ → Cell
cell_in reading number i db = by_reading reading (old_cell number i db) (guarded_cell number i db) (file_cell number i db)

-- column k of it
abbrev pub shown_of : ℕ → ℕ → ℕ → ℕ → List ℕ → Shown
shown_of reading number i k db =
    by_reading reading (old_shown_of number i k db) (guarded_shown_of number i k db) (file_shown_of number i k db)

-- THE CELL

-- a row as the call on its cell answers it; that call alone tells of its varints
abbrev pub cell_from : Result Row Refusal → ℕ → Cell
cell_from (Err refusal) shortest = no_cell refusal
cell_from (Ok row) shortest = cell_of row.number row.columns row.cursor shortest

abbrev pub CellsAgree : Type 0
CellsAgree = (reading number i : ℕ) (db : List ℕ) (o : Opened)
    → opening_of reading number db ≡ record { refused = accepted; opened = o }
    → cell_in reading number i db ≡ cell_from (row_in o i db) (cell_in reading number i db).shortest

-- ITS VALUES

-- whatever the table is: a column of the row that has a place is shown, and its value's words stand there
abbrev pub RowShows : Type 0
RowShows = (reading number i places : ℕ) (db : List ℕ) (table : List ℤ) (o : Opened) (n columns : ℕ) (c : Cursor)
    → opening_of reading number db ≡ record { refused = accepted; opened = o }
    → row_in o i db ≡ row_with n columns c
    → (k : ℕ) → k < columns → k < places
    → ((shown_of reading number i k db).refused ≡ accepted)
    × (take 5 (drop (5 * k) (row_over places db (row_in o i db) table)) ≡ words_of (shown_of reading number i k db).value)

abbrev pub AsManyAsFit : Type 0
AsManyAsFit = (i places : ℕ) (db : List ℕ) (o : Opened) (n columns : ℕ) (c : Cursor)
    → row_in o i db ≡ row_with n columns c
    → (row_by places db (row_in o i db)).count ≡ pick (ltb columns places) columns places
