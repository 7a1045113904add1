-- The columns of a record, along its types. File format, 2.1: "The header ... is followed by the body", the values of the
-- columns one behind the other in the order of their types.
use Rattle.std.specs.Prelude.{ℕ, ◌+◌, ◌-◌, min, List, true, false, ltb, eqb, length, take, drop, None, Option, Some}
use Rattle.laws.specs.Pick.{pick}
use Rattle.reading.specs.Reading.{limit}
use Rattle.varint.specs.declared.Number.{Number}
use Rattle.serial.specs.Serial.{width_of}
use Rattle.record.specs.Types.{Types, done, broken, column, types_of}
use Rattle.columns.specs.declared.Cursor.{Cursor}
use Rattle.columns.specs.declared.Slot.{Slot}
use Rattle.columns.specs.declared.Step.{Step}

-- a step over a column
abbrev pub step_over : ℕ → ℕ → Cursor → Option Step
step_over serial at next = Some (record { serial = serial; at = at; next = next })

-- a column by its type and the place of its value
abbrev pub slot_at : ℕ → ℕ → Option Slot
slot_at serial at = Some (record { serial = serial; at = at })

-- the types before a cursor
abbrev pub types_at : Cursor → List ℕ → Types
types_at c db = types_of (limit c.reading) (take (c.stop - c.at) (drop c.at db))

-- column k of the types, the first value standing at `value`, each behind the one before; a value that passes the end is
-- not there
unfoldable pub slot_in : ℕ → ℕ → ℕ → Types → Option Slot
slot_in k value end done = None
slot_in k value end broken = None
slot_in k value end (column t rest) =
    elim (width_of t.value) [
      | Some w ↦ elim (ltb (end - value) w)
          [ true ↦ None | false ↦ elim (eqb k 0) [ true ↦ slot_at t.value value | false ↦ slot_in (k - 1) (value + w) end rest ] ]
      | None ↦ None
    ]

-- where the values end: with the cursor's end, and not past the bytes
abbrev pub end_in : Cursor → List ℕ → ℕ
end_in c db = min c.end (length db)

-- column k, counted from the cursor
unfoldable pub slot_of : ℕ → Cursor → List ℕ → Option Slot
slot_of k c db = slot_in k c.value (end_in c db) (types_at c db)

-- a cursor behind a type of n bytes and a value of w bytes
abbrev pub behind : ℕ → ℕ → Cursor → Cursor
behind n w c = record { reading = c.reading; at = c.at + n; stop = c.stop; value = c.value + w; end = c.end }

-- past a column of type t, if its value ends in time
abbrev pub passed : ℕ → Cursor → Number → ℕ → Option Step
passed end c t w = pick (ltb (end - c.value) w) None (step_over t.value c.value (behind t.length w c))

unfoldable pub step_in : ℕ → Cursor → Types → Option Step
step_in end c done = None
step_in end c broken = None
step_in end c (column t rest) = elim (width_of t.value) [ Some w ↦ passed end c t w | None ↦ None ]

-- the column at the cursor, and the cursor behind it
unfoldable pub step_of : Cursor → List ℕ → Option Step
step_of c db = step_in (end_in c db) c (types_at c db)
