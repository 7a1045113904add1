-- The types of a record, decoded once; all else about a record is a recursion on them.
--
-- File format, 2.1: "The header begins with a single varint which determines the total number of bytes in the header. The
-- varint value is the size of the header in bytes including the size varint itself. Following the size varint are one or
-- more additional varints, one per column."
use Rattle.std.specs.Prelude.{ℕ, zero, suc, ◌+◌, ◌-◌, List, [], ◌∷◌, Bool, true, false, ltb, eqb, length, drop, Err, None, Ok, Result, Some}
use Rattle.laws.specs.Pick.{pick}
use Rattle.varint.specs.declared.Number.{Number}
use Rattle.varint.specs.Varint.{varint_of}
use Rattle.serial.specs.Serial.{width_of}
use Rattle.record.specs.declared.Laid.{Laid}
use Rattle.record.specs.declared.Laid.TheVariants.{Ends, Breaks, Reserved, Passes}
use Rattle.varint.specs.declared.Cause.{Cause}

-- the types that some bytes hold: to their end, or up to a varint that has no end there
pub data Types : Type 0 where
  done : Types
  broken : Types
  column : Number → Types → Types

-- a type, and the rest behind its bytes
abbrev pub typed : Result Number Cause → (ℕ → Types) → Types
typed (Ok t) rest = column t (rest t.length)
typed (Err c) rest = broken

-- at most `most` types
unfoldable pub types : ℕ → ℕ → List ℕ → Types
types limit zero [] = done
types limit zero (b ∷ s) = broken
types limit (suc most) [] = done
types limit (suc most) (b ∷ s) = typed (varint_of limit (b ∷ s)) (λ n. types limit most (drop n (b ∷ s)))

-- each type takes a byte at least, so there are no more than bytes
abbrev pub types_of : ℕ → List ℕ → Types
types_of limit s = types limit (length s) s

abbrev pub count : Types → ℕ
count done = 0
count broken = 0
count (column t rest) = suc (count rest)

-- type k, the first being type 0; 0 where there is none
abbrev pub nth_type : ℕ → Types → ℕ
nth_type k done = 0
nth_type k broken = 0
nth_type k (column t rest) = pick (eqb k 0) t.value (nth_type (k - 1) rest)

-- whether the types end where their bytes do
abbrev pub ended : Types → Bool
ended done = true
ended broken = false
ended (column t rest) = ended rest

-- how the values of the types lie in `left` bytes, from column `col` on: each behind the one before
unfoldable pub walk : ℕ → ℕ → Types → Laid
walk col left done = Ends col left
walk col left broken = Breaks col left
walk col left (column t rest) =
    elim (width_of t.value) [
      | Some w ↦ elim (ltb left w) [ true ↦ Passes col | false ↦ walk (col + 1) (left - w) rest ]
      | None ↦ Reserved col
    ]
