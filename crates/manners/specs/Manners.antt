-- How the readings differ in the values that they show.
use Rattle.std.specs.Prelude.{ℕ, List, ltb, eqb, pos, get_or}
use Rattle.laws.specs.Pick.{pick}
use Rattle.fields.specs.Fields.{unsigned, signed}
use Rattle.tables.specs.Tables.{widths}
use Rattle.reading.specs.declared.Reading.{Reading}
use Rattle.reading.specs.declared.Reading.TheVariants.{Old as old, File as file}
use Rattle.serial.specs.Serial.{is_blob, length_of}
use Rattle.turns.specs.declared.types.Value.{Value}
use Rattle.manners.specs.declared.Manner.{Manner}
use Rattle.turns.specs.Shown.{empty, integer_of, real_of, long_of}

-- the widths of integers, what type 9 shows, and the first type that shows bytes
abbrev pub manner_of : Reading → Manner
manner_of old = record { i8 = 8; i16 = 16; i32 = 32; i64 = 64; one = pos 0; least = 14 }
manner_of file = record { i8 = 0; i16 = 0; i32 = 0; i64 = 0; one = pos 1; least = 12 }

-- a text or a blob at `at`; the types below `least` have no value to show
abbrev pub long_from : ℕ → ℕ → ℕ → Value
long_from least serial at =
    pick (ltb serial least) empty (pick (is_blob serial) (long_of 4 at (length_of serial)) (long_of 3 at (length_of serial)))

-- the value of a type by a manner: s begins with its bytes and stands at `at`
unfoldable pub value_by : Manner → ℕ → ℕ → List ℕ → Value
value_by manner serial at s =
    pick (eqb serial 0) empty
    (pick (eqb serial 1) (integer_of manner.i8 (signed 1 s))
    (pick (eqb serial 2) (integer_of manner.i16 (signed 2 s))
    (pick (ltb serial 5) (integer_of manner.i32 (signed (get_or widths serial 0) s))
    (pick (ltb serial 7) (integer_of manner.i64 (signed (get_or widths serial 0) s))
    (pick (eqb serial 7) (real_of (unsigned 8 s))
    (pick (eqb serial 8) (integer_of manner.i8 (pos 0))
    (pick (eqb serial 9) (integer_of manner.i8 manner.one)
    (long_from manner.least serial at))))))))
