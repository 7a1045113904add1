-- The values that columns show as C has them. The width of an integer is told in the old reading, whose types differ by it.
use Rattle.std.specs.Prelude.{ℕ, ℤ, pos, Err, Ok, Result}
use Rattle.values.specs.declared.old.Value.{Value as OldValue}
use Rattle.values.specs.declared.old.Value.TheVariants as ov
use Rattle.values.specs.declared.file.Value.{Value as FileValue}
use Rattle.values.specs.declared.file.Value.TheVariants as fv
use Rattle.turns.specs.declared.types.Value.{Value}
use Rattle.turns.specs.declared.types.Shown.{Shown}
use Rattle.turns.specs.Refusals.{accepted, refused_by}
use Rattle.answers.specs.declared.Refusal.{Refusal}

-- EACH SORT

-- null, and what stands where no value is shown
abbrev pub empty : Value
empty = record { kind = 0; width = 0; integer = pos 0; bits = 0; at = 0; len = 0 }

abbrev pub integer_of : ℕ → ℤ → Value
integer_of width z = record { kind = 1; width = width; integer = z; bits = 0; at = 0; len = 0 }

abbrev pub real_of : ℕ → Value
real_of bits = record { kind = 2; width = 0; integer = pos 0; bits = bits; at = 0; len = 0 }

-- a text (3) or a blob (4)
abbrev pub long_of : ℕ → ℕ → ℕ → Value
long_of kind at len = record { kind = kind; width = 0; integer = pos 0; bits = 0; at = at; len = len }

-- OLD

abbrev pub old_value : OldValue → Value
old_value ov.Null = empty
old_value (ov.I8 z) = integer_of 8 z
old_value (ov.I16 z) = integer_of 16 z
old_value (ov.I32 z) = integer_of 32 z
old_value (ov.I64 z) = integer_of 64 z
old_value (ov.F64 number bits) = real_of bits
old_value (ov.Blob at len) = long_of 4 at len
old_value (ov.Text at len) = long_of 3 at len

abbrev pub old_shown : Result OldValue Refusal → Shown
old_shown (Err refusal) = record { refused = refused_by refusal; value = empty }
old_shown (Ok value) = record { refused = accepted; value = old_value value }

-- FILE

abbrev pub file_value : FileValue → Value
file_value fv.Null = empty
file_value (fv.Integer z) = integer_of 0 z
file_value (fv.Real number bits) = real_of bits
file_value (fv.Blob at len) = long_of 4 at len
file_value (fv.Text at len) = long_of 3 at len

abbrev pub file_shown : Result FileValue Refusal → Shown
file_shown (Err refusal) = record { refused = refused_by refusal; value = empty }
file_shown (Ok value) = record { refused = accepted; value = file_value value }
