-- The values of the old reading: the Rust's `column_values`, with the names and widths of its `Payload`.
--
-- It parts from the format in two places: type 9 shows 0, and a text or a blob with no bytes shows null.
use Rattle.std.specs.Prelude.{ℕ, List, ltb, eqb, get_or, pos}
use Rattle.std.specs.Float.{binary64}
use Rattle.std.specs.Float.Ieee.{of_bits}
use Rattle.laws.specs.Pick.{pick}
use Rattle.fields.specs.Fields.{unsigned, signed}
use Rattle.tables.specs.Tables.{widths}
use Rattle.serial.specs.Serial.{is_blob, length_of}
use Rattle.values.specs.declared.old.Value.{Value}
use Rattle.values.specs.declared.old.Value.TheVariants.{Null, I8, I16, I32, I64, F64, Text, Blob}

-- a text or a blob at `at`; the Rust panics at types 10 and 11, and no record with one is shown
abbrev pub long_of : ℕ → ℕ → Value
long_of serial at = pick (eqb (length_of serial) 0) Null (pick (is_blob serial) (Blob at (length_of serial)) (Text at (length_of serial)))

-- s begins with the value's bytes and stands at `at`
unfoldable pub value_of : ℕ → ℕ → List ℕ → Value
value_of serial at s =
    pick (eqb serial 0) Null
    (pick (eqb serial 1) (I8 (signed 1 s))
    (pick (eqb serial 2) (I16 (signed 2 s))
    (pick (ltb serial 5) (I32 (signed (get_or widths serial 0) s))
    (pick (ltb serial 7) (I64 (signed (get_or widths serial 0) s))
    (pick (eqb serial 7) (F64 (of_bits binary64 (unsigned 8 s)) (unsigned 8 s))
    (pick (ltb serial 10) (I8 (pos 0))
    (long_of serial at)))))))
