-- The values of the file reading: the table of the file format's section 2.1, "Record Format".
use Rattle.std.specs.Prelude.{ℕ, List, ltb, eqb, get_or, pos}
use Rattle.std.specs.Float.{binary64}
use Rattle.std.specs.Float.Ieee.{of_bits}
use Rattle.laws.specs.Pick.{pick}
use Rattle.fields.specs.Fields.{unsigned, signed}
use Rattle.tables.specs.Tables.{widths}
use Rattle.serial.specs.Serial.{is_blob, length_of}
use Rattle.values.specs.declared.file.Value.{Value}
use Rattle.values.specs.declared.file.Value.TheVariants.{Null, Integer, Real, Text, Blob}

-- a text or a blob at `at`; types 10 and 11 have no value, and no record with one is shown
abbrev pub long_of : ℕ → ℕ → Value
long_of serial at = pick (ltb serial 12) Null (pick (is_blob serial) (Blob at (length_of serial)) (Text at (length_of serial)))

-- s begins with the value's bytes and stands at `at`
unfoldable pub value_of : ℕ → ℕ → List ℕ → Value
value_of serial at s =
    pick (eqb serial 0) Null
    (pick (ltb serial 7) (Integer (signed (get_or widths serial 0) s))
    (pick (eqb serial 7) (Real (of_bits binary64 (unsigned 8 s)) (unsigned 8 s))
    (pick (eqb serial 8) (Integer (pos 0))
    (pick (eqb serial 9) (Integer (pos 1))
    (long_of serial at)))))
