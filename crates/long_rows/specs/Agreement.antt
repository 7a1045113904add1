-- THEOREMS: a row at once with a gather buffer lent is what single calls answer. Each place of the table that a column of the row
-- has holds, in five words, the value that the call on this column shows, of the same bytes; there are as many values as the row
-- has columns, or as the table has places. The call on a column that the row does not count is refused for that, and a row that
-- is refused is refused as the call on each of its columns is. A row on its page has the number and the columns of its cell as
-- the call has it that is lent no buffer; a spilled one, which that refuses with 18, the number that stands on its page.
use Rattle.std.specs.Prelude.{ℕ, ◌*◌, ◌≤◌, ◌<◌, ◌≡◌, List, Bool, true, false, ltb, ℤ, length, take, drop, Err, Ok, Result}
use Rattle.laws.specs.Pick.{pick}
use Rattle.answers.specs.declared.Reason.TheVariants as re
use Rattle.answers.specs.declared.Refusal.{Refusal}
use Rattle.answers.specs.declared.Refusal.TheVariants.{OnPage}
use Rattle.record.specs.Types.{count}
use Rattle.place.specs.Place.{file_page}
use Rattle.page.specs.declared.Open.{Open}
use Rattle.page.specs.Open as page
use Rattle.cell.specs.declared.Numbers.{Numbers}
use Rattle.cells.specs.Located.{Located, row_number, located_of}
use Rattle.cells.specs.Numbered.{numbers_in}
use Rattle.row.specs.Found.{found_by}
use Rattle.guarded.specs.Guarded as guarded
use Rattle.spilled.specs.Lent.{Lent, whole, gathered}
use Rattle.spilled.specs.Values as file
use Rattle.marked.specs.Marked as marked
use Rattle.turns.specs.declared.types.Cell.{Cell}
use Rattle.turns.specs.declared.types.LentRow.{LentRow}
use Rattle.turns.specs.Refusals.{accepted}
use Rattle.row_head.specs.Head.{shortest_by}
use Rattle.turns.specs.Rows.{cell_by}
use Rattle.sources.specs.Lent.{lent_shown}
use Rattle.turns.specs.Words.{words_of}
use Rattle.gathered.specs.Rows.{lent_in, row_lent, table_lent}
use Rattle.spilled.specs.declared.ValueIn.{ValueIn}

-- SINGLE CALLS, in the guarded reading or in the file reading

-- the page
abbrev pub opened_by : Bool → ℕ → List ℕ → Result Open Refusal
opened_by true number db = guarded.open_of number db
opened_by false number db = page.open_of (file_page number) db

-- column k of its cell i
abbrev pub value_by : Bool → ℕ → ℕ → ℕ → ℕ → List ℕ → Result ValueIn Refusal
value_by true number i k room db = marked.value_of number i k room db
value_by false number i k room db = file.value_of number i k room db

-- the cell, by the call that is lent no buffer
abbrev pub located_by : Bool → ℕ → ℕ → List ℕ → Result Located Refusal
located_by true number i db = guarded.located_of number i db
located_by false number i db = located_of (file_page number) i db

abbrev pub cell_in : Bool → ℕ → ℕ → List ℕ → Cell
cell_in g number i db = cell_by (found_by (located_by g number i db)) (shortest_by (located_by g number i db))

-- ITS VALUES

abbrev pub columns_of : Lent → ℕ
columns_of (whole l) = count l.cell.types
columns_of (gathered c) = count c.cell.types

abbrev pub RowShows : Type 0
RowShows = (g : Bool) (number i places : ℕ) (db buffer : List ℕ) (table : List ℤ) (o : Open) (f : Lent)
    → opened_by g number db ≡ Ok o → lent_in g o i (length buffer) db ≡ Ok f
    → (k : ℕ) → k < columns_of f → k < places
    → ((lent_shown (value_by g number i k (length buffer) db)).refused ≡ accepted)
    × ((lent_shown (value_by g number i k (length buffer) db)).source ≡ (row_lent places db (Ok f)).source)
    × (take 5 (drop (5 * k) (table_lent places db (Ok f) table)) ≡ words_of (lent_shown (value_by g number i k (length buffer) db)).value)

-- on every opened page, whoever made it up
abbrev pub AsManyAsFit : Type 0
AsManyAsFit = (g : Bool) (i places : ℕ) (db buffer : List ℕ) (o : Open) (f : Lent)
    → lent_in g o i (length buffer) db ≡ Ok f
    → (row_lent places db (Ok f)).row.count ≡ pick (ltb (columns_of f) places) (columns_of f) places

-- ITS CELL

-- behind the columns that a row counts there is none
abbrev pub NoneBehind : Type 0
NoneBehind = (g : Bool) (number i places : ℕ) (db buffer : List ℕ) (o : Open) (f : Lent)
    → opened_by g number db ≡ Ok o → lent_in g o i (length buffer) db ≡ Ok f
    → (k : ℕ) → (row_lent places db (Ok f)).row.columns ≤ k
    → value_by g number i k (length buffer) db ≡ Err (OnPage number re.NoSuchColumn)

abbrev pub RefusedAlike : Type 0
RefusedAlike = (g : Bool) (number i places : ℕ) (db buffer : List ℕ) (o : Open) (refusal : Refusal)
    → opened_by g number db ≡ Ok o → lent_in g o i (length buffer) db ≡ Err refusal
    → (k : ℕ) → (value_by g number i k (length buffer) db ≡ Err refusal)
    × ((row_lent places db (Err refusal)).row.refused ≡ (lent_shown (value_by g number i k (length buffer) db)).refused)

-- a row on its page as the call on its cell has it; a spilled one, which that refuses, with the number that stands there
abbrev pub SameCell : Lent → LentRow → Cell → Result Numbers Refusal → Type 0
SameCell (whole l) r c n = (c.refused ≡ accepted) × (c.row ≡ r.row.number) × (c.columns ≡ r.row.columns)
SameCell (gathered s) r c n = (c.refused.number ≡ 18) × ((m : Numbers) → n ≡ Ok m → row_number m.key.value ≡ r.row.number)

abbrev pub CellsAgree : Type 0
CellsAgree = (g : Bool) (number i places : ℕ) (db buffer : List ℕ) (o : Open) (f : Lent)
    → opened_by g number db ≡ Ok o → lent_in g o i (length buffer) db ≡ Ok f
    → SameCell f (row_lent places db (Ok f)) (cell_in g number i db) (numbers_in o i db)
