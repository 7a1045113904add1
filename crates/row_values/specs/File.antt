-- The values of a cell as the file format has them.
use Rattle.std.specs.Prelude.{ℕ, zero, suc, List, drop, Err, None, Ok, Option, Result, Some}
use Rattle.answers.specs.declared.Reason.TheVariants as re
use Rattle.answers.specs.declared.Refusal.TheVariants.{OnPage}
use Rattle.values.specs.File.{value_of}
use Rattle.columns.specs.declared.Cursor.{Cursor}
use Rattle.columns.specs.Columns.{step_of}
use Rattle.place.specs.declared.Page.{Page}
use Rattle.place.specs.Place.{file_page}
use Rattle.row.specs.Column.{column_of}
use Rattle.answers.specs.declared.Refusal.{Refusal}
use Rattle.columns.specs.declared.Slot.{Slot}
use Rattle.columns.specs.declared.Step.{Step}
use Rattle.row_values.specs.declared.file.Column.{Column}
use Rattle.values.specs.declared.file.Value.{Value}

-- a value, and the cursor behind it
abbrev pub valued : Value → Cursor → Option Column
valued value next = Some (record { value = value; next = next })

abbrev pub shown_by : List ℕ → Result Slot Refusal → Result Value Refusal
shown_by db (Err refusal) = Err refusal
shown_by db (Ok slot) = Ok (value_of slot.serial slot.at (drop slot.at db))

-- column k of cell i of the page of that number
unfoldable pub shown_of : ℕ → ℕ → ℕ → List ℕ → Result Value Refusal
shown_of number i k db = shown_by db (column_of (file_page number) i k db)

abbrev pub next_by : List ℕ → Option Step → Option Column
next_by db None = None
next_by db (Some step) = valued (value_of step.serial step.at (drop step.at db)) step.next

-- the value at a cursor
unfoldable pub next_of : Cursor → List ℕ → Option Column
next_of c db = next_by db (step_of c db)

-- the answer behind k others along a cursor, and the same as a call on column k would have it
abbrev pub onward : Option Column → (Cursor → Option Column) → Option Column
onward None rest = None
onward (Some col) rest = rest col.next

unfoldable pub along : ℕ → Cursor → List ℕ → Option Column
along zero c db = next_of c db
along (suc k) c db = onward (next_of c db) (λ next. along k next db)

abbrev pub value_in : Page → Option Column → Result Value Refusal
value_in page None = Err (OnPage page.number re.NoSuchColumn)
value_in page (Some col) = Ok col.value
