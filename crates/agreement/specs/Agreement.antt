-- THEOREM: what the guarded reading may be trusted for, of every database, page and cell. (More than 1,073,741,824 bytes
-- are refused by every reading.)
use Rattle.std.specs.Prelude.{ℕ, ◌-◌, ◌≡◌, List, [], ◌∷◌, Bool, true, false, ◌||◌, ℤ, Err, None, Ok, Option, Result, Some}
use Rattle.answers.specs.declared.Reason.TheVariants as re
use Rattle.answers.specs.declared.Refusal.{Refusal}
use Rattle.answers.specs.declared.Refusal.TheVariants.{OnPage, InCell}
use Rattle.answers.specs.declared.Fault.TheVariants as fa
use Rattle.answers.specs.declared.Mark.{Mark}
use Rattle.kinds.specs.declared.Kind.TheVariants.{LeafTable}
use Rattle.cell.specs.Cell.{Cell}
use Rattle.columns.specs.declared.Cursor.{Cursor}
use Rattle.marks.specs.Marks.{some, long_varint, stored_one, empty_value, mark_of}
use Rattle.place.specs.Place.{file_page}
use Rattle.site.specs.declared.Site.{Site}
use Rattle.page.specs.declared.Open.{Open}
use Rattle.site.specs.Site.{site_of}
use Rattle.cells.specs.Located as cells
use Rattle.cells.specs.Located.{Located}
use Rattle.row_values.specs.File as file
use Rattle.row_head.specs.Head.{count_of, row_of}
use Rattle.guarded.specs.Guarded as guarded
use Rattle.guarded.specs.Guarded.{located_in, cursor_of, shown_of}
use Rattle.agreement.specs.Shows as means
use Rattle.agreement.specs.Shows.{Meaning, null, integer, real, text, blob, none, row, old_shows, file_shows, guarded_shows}
use Rattle.row_head.specs.Head.{count_told, row_told}

-- guarded shows a cell only if old (the page counted from 0) and file both show it, with the same row number, column count
-- and values; and it shows what file shows
abbrev pub GuardedAgrees : Type 0
GuardedAgrees = (page i : ℕ) (db : List ℕ) (number : ℤ) (values : List Meaning) → guarded_shows page i db ≡ row number values
    → (old_shows (page - 1) i db ≡ row number values) × (file_shows page i db ≡ row number values)

-- the lowest mark of the record that the file reading shows there
abbrev pub mark_by : Result Located Refusal → Option Mark
mark_by (Err refusal) = None
mark_by (Ok l) = mark_of l.cell

abbrev pub mark_at : ℕ → ℕ → List ℕ → Option Mark
mark_at page i db = mark_by (cells.located_of (file_page page) i db)

-- on a table leaf page, guarded refuses exactly when file refuses or the record has a mark: as file does, or with the mark
abbrev pub GuardedRefuses : Type 0
GuardedRefuses = (page i : ℕ) (db : List ℕ) (s : Site) → site_of (file_page page) db ≡ Ok s → s.kind ≡ LeafTable
    → ((refusal : Refusal) → file_shows page i db ≡ none refusal → guarded_shows page i db ≡ none refusal)
    × ((mark : Mark) → mark_at page i db ≡ Some mark → guarded_shows page i db ≡ none (InCell page i (fa.Marked mark)))
    × ((number : ℤ) (values : List Meaning) → file_shows page i db ≡ row number values → mark_at page i db ≡ None → guarded_shows page i db ≡ row number values)

-- a cell of an opened page, whoever opened it or made it up: guarded shows it exactly when the page is a table leaf, its
-- reading shows the cell and the record has no mark; and what it is refused with otherwise
abbrev pub EveryOpenGuarded : Type 0
EveryOpenGuarded = (o : Open) (i : ℕ) (db : List ℕ)
    → ((l : Located) → located_in o i db ≡ Ok l → (o.kind ≡ LeafTable) × (cells.located_in o i db ≡ Ok l) × (mark_of l.cell ≡ None))
    × ((l : Located) → o.kind ≡ LeafTable → cells.located_in o i db ≡ Ok l → mark_of l.cell ≡ None → located_in o i db ≡ Ok l)
    × ((o.kind ≡ LeafTable → ⊥) → located_in o i db ≡ Err (OnPage o.page.number re.KindUnfit))
    × ((refusal : Refusal) → o.kind ≡ LeafTable → cells.located_in o i db ≡ Err refusal → located_in o i db ≡ Err refusal)
    × ((l : Located) (mark : Mark) → o.kind ≡ LeafTable → cells.located_in o i db ≡ Ok l → mark_of l.cell ≡ Some mark → located_in o i db ≡ Err (InCell o.page.number i (fa.Marked mark)))

-- the marks under which the old reading never shows the same: all but the second
abbrev pub differing : Cell → Bool
differing c =
    long_varint c.numbers.size.length c.numbers.key.length c.header.length c.types
    || (some stored_one c.types || some empty_value c.types)

abbrev pub differing_by : Result Located Refusal → Bool
differing_by (Err refusal) = false
differing_by (Ok l) = differing l.cell

abbrev pub differing_at : ℕ → ℕ → List ℕ → Bool
differing_at page i db = differing_by (cells.located_of (file_page page) i db)

-- of the varints of a cell that it shows, guarded says what file says
abbrev pub ShortestAsFile : Type 0
ShortestAsFile = (page i : ℕ) (db : List ℕ) (n : ℕ) (z : ℤ) (s : Bool)
    → (guarded.count_of page i db ≡ count_told n s → count_of (file_page page) i db ≡ count_told n s)
    × (guarded.row_of page i db ≡ row_told z s → row_of (file_page page) i db ≡ row_told z s)

-- where such a mark stands in a table leaf's record, the old reading refuses the cell or shows another list
abbrev pub MarksDiffer : Type 0
MarksDiffer = (page i : ℕ) (db : List ℕ) (s : Site) → site_of (file_page page) db ≡ Ok s → s.kind ≡ LeafTable → differing_at page i db ≡ true
    → (a b : ℤ) (os fs : List Meaning) → old_shows (page - 1) i db ≡ row a os → file_shows page i db ≡ row b fs → os ≡ fs → ⊥

-- a value, and no refusal in its stead
abbrev pub IsValue : Meaning → Type 0
IsValue null = Unit {0}
IsValue (integer n) = Unit {0}
IsValue (real bits) = Unit {0}
IsValue (text bytes) = Unit {0}
IsValue (blob bytes) = Unit {0}
IsValue (means.refused refusal) = ⊥

abbrev pub AllValues : List Meaning → Type 0
AllValues [] = Unit {0}
AllValues (value ∷ values) = IsValue value × AllValues values

-- where a reading shows a row, it shows every value of it: as many as the column count says
abbrev pub EachShown : Type 0
EachShown = (page i : ℕ) (db : List ℕ) (number : ℤ) (values : List Meaning)
    → (old_shows page i db ≡ row number values → AllValues values)
    × (file_shows page i db ≡ row number values → AllValues values)
    × (guarded_shows page i db ≡ row number values → AllValues values)

-- along a cursor are the values that single calls show, and behind the last there is no column
abbrev pub CursorShows : Type 0
CursorShows = (page i k : ℕ) (db : List ℕ) (c : Cursor) → cursor_of page i db ≡ Ok c
    → file.value_in (file_page page) (file.along k c db) ≡ shown_of page i k db
