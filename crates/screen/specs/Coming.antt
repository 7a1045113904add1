-- A column of a row that was checked, as the code comes to it. Nothing of it is in what the call promises.
use Rattle.std.specs.Prelude.{ℕ, ◌-◌, ◌≤◌, ◌≡◌, List, length, take, drop, Ok}
use Rattle.varint.specs.declared.Number.{Number}
use Rattle.varint.specs.Varint.{varint_of}
use Rattle.reading.specs.Reading.{limit}
use Rattle.columns.specs.declared.Cursor.{Cursor}
use Rattle.checked.specs.Whole.{number_by}

-- the type at a cursor
abbrev pub type_at : Cursor → List ℕ → Number
type_at c db = number_by (varint_of (limit c.reading) (take (c.stop - c.at) (drop c.at db)))

-- there is one, and the value of its width
pub record Coming (c : Cursor) (db : List ℕ) : Type 0 where
  pub t : Number
  pub read : varint_of (limit c.reading) (take (c.stop - c.at) (drop c.at db)) ≡ Ok t
  pub header : c.stop ≤ length db
