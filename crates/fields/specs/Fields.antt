-- Big-endian numbers.
--
-- File format, 1.3: "All multibyte fields in the database file header are stored with the most significant byte first
-- (big-endian)." 2.1: the serial types 1 to 6 are "big-endian twos-complement" integers of 8, 16, 24, 32, 48 and 64 bits.
use Rattle.std.specs.Prelude.{ℕ, ◌+◌, ◌*◌, ◌^◌, List, [], ◌∷◌, ltb, length, take, ℤ, pos}
use Rattle.std.proofs.Math.IntN.{sub_ℕ}
use Rattle.laws.specs.Pick.{pick}

-- the sum of the bytes, each times 256 to the number of bytes behind it: 1 0 2 is 1 * 256 ^ 2 + 0 * 256 ^ 1 + 2 * 256 ^ 0
unfoldable pub be : List ℕ → ℕ
be [] = 0
be (b ∷ s) = b * 256 ^ length s + be s

-- v as two's complement in a width that has m patterns: less m where the top bit is set (`sub_ℕ a b` is the integer a - b)
unfoldable pub twos : ℕ → ℕ → ℤ
twos m v = pick (ltb (2 * v) m) (pos v) (sub_ℕ v m)

-- the number that the first w bytes spell
abbrev pub unsigned : ℕ → List ℕ → ℕ
unsigned w s = be (take w s)

-- and as two's complement of that width
abbrev pub signed : ℕ → List ℕ → ℤ
signed w s = twos (256 ^ w) (be (take w s))
