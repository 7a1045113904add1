-- THEOREMS on the columns of a cell: there are as many as its count; their values follow each other with no gap, up to where
-- the payload (file) or the page (old) ends; and a cursor comes to the value of each in turn.
use Rattle.std.specs.Prelude.{ℕ, suc, ◌+◌, ◌≤◌, ◌<◌, ◌≡◌, List, Bool, length, Err, Ok, Result, Some}
use Rattle.answers.specs.declared.Reason.TheVariants as re
use Rattle.answers.specs.declared.Refusal.TheVariants.{OnPage}
use Rattle.serial.specs.Serial.{width_of}
use Rattle.columns.specs.declared.Cursor.{Cursor}
use Rattle.place.specs.declared.Page.{Page}
use Rattle.place.specs.Place.{old_page, file_page}
use Rattle.row.specs.Row.{cursor_of}
use Rattle.row_head.specs.Head.{count_of}
use Rattle.row.specs.Column.{column_of}
use Rattle.row_values.specs.Old as old
use Rattle.row_values.specs.File as file
use Rattle.answers.specs.declared.Refusal.{Refusal}
use Rattle.columns.specs.declared.Slot.{Slot}
use Rattle.row.specs.Column.{column_at}
use Rattle.row_head.specs.Head.{count_told}

-- a column is shown, with some type at some place
pub record There (answer : Result Slot Refusal) : Type 0 where
  pub t : ℕ
  pub at : ℕ
  pub is : answer ≡ column_at t at

abbrev pub AsManyAsCounted : Type 0
AsManyAsCounted = (page : Page) (i : ℕ) (db : List ℕ) (n : ℕ) (s : Bool) → count_of page i db ≡ count_told n s
    → ((k : ℕ) → k < n → There (column_of page i k db)) × ((k : ℕ) → n ≤ k → column_of page i k db ≡ Err (OnPage page.number re.NoSuchColumn))

-- the extent of a column's value, of w bytes, lies between the cursor's first value and its end, and in the bytes
abbrev pub Extents : Type 0
Extents = (page : Page) (i k : ℕ) (db : List ℕ) (c : Cursor) (t at w : ℕ)
    → cursor_of page i db ≡ Ok c → column_of page i k db ≡ column_at t at → width_of t ≡ Some w
    → (c.value ≤ at) × (at + w ≤ c.end) × (c.end ≤ length db)

-- the first value stands where the cursor says, and each of the others where the one before it ends
abbrev pub NoGap : Type 0
NoGap = (page : Page) (i : ℕ) (db : List ℕ) (c : Cursor) → cursor_of page i db ≡ Ok c
    → ((t at : ℕ) → column_of page i 0 db ≡ column_at t at → at ≡ c.value)
    × ((k t at w t' at' : ℕ) → column_of page i k db ≡ column_at t at → width_of t ≡ Some w → column_of page i (suc k) db ≡ column_at t' at' → at' ≡ at + w)

-- along a cursor are the values that single calls show, and behind the last there is no column
abbrev pub CursorShows : Type 0
CursorShows = (number i k : ℕ) (db : List ℕ) (c : Cursor)
    → (cursor_of (old_page number) i db ≡ Ok c → old.value_in (old_page number) (old.along k c db) ≡ old.shown_of number i k db)
    × (cursor_of (file_page number) i db ≡ Ok c → file.value_in (file_page number) (file.along k c db) ≡ file.shown_of number i k db)
