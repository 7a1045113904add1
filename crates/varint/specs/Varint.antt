-- What a varint is.
--
-- File format, 1.6: "The varint consists of either zero or more bytes which have the high-order bit set followed by a
-- single byte with the high-order bit clear, or nine bytes, whichever is shorter. The lower seven bits of each of the
-- first eight bytes and all 8 bits of the ninth byte are used to reconstruct the 64-bit twos-complement integer.
-- Varints are big-endian." The old reading takes five bytes at most: there the ninth byte is never met.
--
-- 81 00 is 1 * 128 + 0 = 128. A limit of five finds no number in 81 80 80 80 80 00, and one of nine finds 2 ^ 35.
use Rattle.std.specs.Prelude.{ℕ, zero, suc, ◌+◌, ◌*◌, ◌%◌, List, [], ◌∷◌, true, false, ltb, eqb, Err, Ok, Result}
use Rattle.varint.specs.declared.Number.{Number}
use Rattle.varint.specs.declared.Cause.TheVariants.{CutShort, WithoutEnd}
use Rattle.varint.specs.declared.Cause.{Cause}

-- a number that took so many bytes
abbrev pub number : ℕ → ℕ → Number
number v n = record { value = v; length = n }

-- `more` bytes may still be read; n are read, all with the top bit set, and give v
unfoldable pub scan : ℕ → ℕ → ℕ → List ℕ → Result Number Cause
scan zero n v s = Err WithoutEnd
scan (suc more) n v [] = Err CutShort
scan (suc more) n v (b ∷ s) =
    elim (eqb n 8) [
      | true ↦ Ok (number (v * 256 + b) 9)
      | false ↦ elim (ltb b 128) [
        | true ↦ Ok (number (v * 128 + b) (n + 1))
        | false ↦ scan more (n + 1) (v * 128 + b % 128) s
      ]
    ]

-- the varint of at most `limit` bytes that stands first
abbrev pub varint_of : ℕ → List ℕ → Result Number Cause
varint_of limit s = scan limit 0 0 s
