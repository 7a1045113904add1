-- The marks of a table leaf record that the file reading accepts: why the old reading need not show the same of it. They are
-- the first four of docs/READINGS.md, and the lowest is given; the fifth is of a payload that spills.
use Rattle.std.specs.Prelude.{ℕ, Bool, false, not, ◌||◌, ltb, eqb, None, Option, Some}
use Rattle.laws.specs.Pick.{pick}
use Rattle.varint.specs.declared.Number.{Number}
use Rattle.answers.specs.declared.Mark.{Mark}
use Rattle.answers.specs.declared.Mark.TheVariants as ma
use Rattle.record.specs.Types.{Types, done, broken, column}
use Rattle.cell.specs.Cell.{Cell}

-- whether some type is so
abbrev pub some : (Number → Bool) → Types → Bool
some f done = false
some f broken = false
some f (column t rest) = f t || some f rest

-- a varint that took more than five bytes
abbrev pub long : ℕ → Bool
long n = ltb 5 n

abbrev pub long_type : Number → Bool
long_type t = long t.length

abbrev pub stored_one : Number → Bool
stored_one t = eqb t.value 9

abbrev pub empty_value : Number → Bool
empty_value t = eqb t.value 12 || eqb t.value 13

-- the payload size took np bytes, the row number nv, the header size own
abbrev pub long_varint : ℕ → ℕ → ℕ → Types → Bool
long_varint np nv own ts = long np || (long nv || (long own || some long_type ts))

-- by what was found: a long varint, a type 9, an empty value
abbrev pub lowest_by : Bool → ℕ → Bool → Bool → Option Mark
lowest_by is_long own is_one is_empty =
    pick is_long (Some ma.LongVarint)
    (pick (not (eqb own 1)) (Some ma.WideHeaderSize)
    (pick is_one (Some ma.StoredOne) (pick is_empty (Some ma.EmptyValue) None)))

unfoldable pub lowest : ℕ → ℕ → ℕ → Types → Option Mark
lowest np nv own ts = lowest_by (long_varint np nv own ts) own (some stored_one ts) (some empty_value ts)

-- of a cell
abbrev pub mark_of : Cell → Option Mark
mark_of c = lowest c.numbers.size.length c.numbers.key.length c.header.length c.types

-- of a cell whose payload spills: the fifth, where it has none of the four
abbrev pub or_spilled : Option Mark → Mark
or_spilled None = ma.Spilled
or_spilled (Some mark) = mark
