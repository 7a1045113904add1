-- A row whose record was checked: so many types stand before its cursor, and the value of each lies before its end.
use Rattle.std.specs.Prelude.{ℕ, ◌-◌, ◌≤◌, ◌≡◌, List, length, Err, None, Ok, Option, Result, Some}
use Rattle.varint.specs.declared.Number.{Number}
use Rattle.varint.specs.Varint.{number}
use Rattle.record.specs.Types.{count, walk}
use Rattle.record.specs.Record.{judged}
use Rattle.columns.specs.declared.Cursor.{Cursor}
use Rattle.columns.specs.Columns.{types_at}
use Rattle.record.specs.Record.{fits_with}
use Rattle.varint.specs.declared.Cause.{Cause}

-- n columns from the cursor on, all of them there
pub record Whole (c : Cursor) (n : ℕ) (db : List ℕ) : Type 0 where
  pub ordered : c.value ≤ c.end
  pub within : c.end ≤ length db
  pub header : c.stop ≤ length db
  pub left : ℕ
  pub fits : judged c.reading (types_at c db) (walk 0 (c.end - c.value) (types_at c db)) ≡ fits_with (count (types_at c db)) left
  pub columns : count (types_at c db) ≡ n

-- how many bytes a value has; 0 where that is not known
abbrev pub bytes_in : Option ℕ → ℕ
bytes_in (Some w) = w
bytes_in None = 0

-- a number that is there; 0 in no bytes where there is none
abbrev pub number_by : Result Number Cause → Number
number_by (Ok n) = n
number_by (Err cause) = number 0 0
