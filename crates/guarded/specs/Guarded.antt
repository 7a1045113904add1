-- The guarded reading: a cell of a table leaf as the file reading has it, where its record has no mark. The old reading is
-- never run for it; that the two agree is the theorem of `agreement`.
use Rattle.std.specs.Prelude.{ℕ, List, Err, None, Ok, Option, Result, Some}
use Rattle.laws.specs.Pick.{pick}
use Rattle.answers.specs.declared.Reason.TheVariants as re
use Rattle.answers.specs.declared.Refusal.{Refusal}
use Rattle.answers.specs.declared.Refusal.TheVariants.{InCell}
use Rattle.answers.specs.declared.Fault.TheVariants as fa
use Rattle.answers.specs.Answer.{◌>>=◌}
use Rattle.kinds.specs.declared.Kind.{Kind}
use Rattle.kinds.specs.Kind.{is_leaf_table}
use Rattle.marks.specs.Marks.{mark_of}
use Rattle.place.specs.declared.Page.{Page}
use Rattle.place.specs.Place.{file_page}
use Rattle.page.specs.declared.Open.{Open}
use Rattle.site.specs.Site.{on_page, site_of}
use Rattle.page.specs.Open.{open_from}
use Rattle.cells.specs.Located as cells
use Rattle.cells.specs.Located.{Located}
use Rattle.row.specs.Found.{found_by}
use Rattle.row.specs.Row.{cursor_by}
use Rattle.row_head.specs.Head.{count_by, row_by}
use Rattle.row.specs.Column.{column_by}
use Rattle.row_values.specs.File.{shown_by}
use Rattle.answers.specs.declared.Mark.{Mark}
use Rattle.columns.specs.declared.Cursor.{Cursor}
use Rattle.row_head.specs.declared.ColumnCount.{ColumnCount}
use Rattle.row_head.specs.declared.RowNumber.{RowNumber}
use Rattle.values.specs.declared.file.Value.{Value}

-- a page of another kind is refused where the file reading would go on
abbrev pub leaf_only : {A : Type 0} → Page → Kind → A → Result A Refusal
leaf_only page kind a = pick (is_leaf_table kind) (Ok a) (on_page page re.KindUnfit)

-- the page of that number, as the file format counts; its kind is asked for before its head and its pointers
unfoldable pub open_of : ℕ → List ℕ → Result Open Refusal
open_of number db = do
  site ← site_of (file_page number) db
  leaf ← leaf_only site.page site.kind site
  open_from leaf db

-- a located cell i, by its lowest mark
abbrev pub unmarked : ℕ → Located → Option Mark → Result Located Refusal
unmarked i l None = Ok l
unmarked i l (Some mark) = Err (InCell l.opened.page.number i (fa.Marked mark))

-- cell i of an opened page; one that no call opened is asked for its kind too
unfoldable pub located_in : Open → ℕ → List ℕ → Result Located Refusal
located_in o i db = do
  leaf ← leaf_only o.page o.kind o
  l ← cells.located_in leaf i db
  unmarked i l (mark_of l.cell)

-- cell i of the page
unfoldable pub located_of : ℕ → ℕ → List ℕ → Result Located Refusal
located_of number i db = do
  o ← open_of number db
  located_in o i db

-- THE CALLS, as those of the file reading

unfoldable pub count_of : ℕ → ℕ → List ℕ → Result ColumnCount Refusal
count_of number i db = count_by (located_of number i db)

unfoldable pub row_of : ℕ → ℕ → List ℕ → Result RowNumber Refusal
row_of number i db = row_by (located_of number i db)

unfoldable pub cursor_of : ℕ → ℕ → List ℕ → Result Cursor Refusal
cursor_of number i db = cursor_by (found_by (located_of number i db))

unfoldable pub shown_of : ℕ → ℕ → ℕ → List ℕ → Result Value Refusal
shown_of number i k db = shown_by db (column_by k (located_of number i db))
