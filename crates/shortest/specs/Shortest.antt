-- The shortest form of a varint: what a writer writes that has no byte to spare.
--
-- File format, 1.6: "The varint consists of either zero or more bytes which have the high-order bit set followed by a
-- single byte with the high-order bit clear, or nine bytes, whichever is shorter. The lower seven bits of each of the
-- first eight bytes and all 8 bits of the ninth byte are used to reconstruct the 64-bit twos-complement integer.
-- Varints are big-endian."
--
-- A number can have zeros in front: 80 05 is 5, as 05 is. A writer leaves them out, but for those that nine bytes have: 2 ^ 56 is
-- 80 c0 80 80 80 80 80 80 00, and from there on nine bytes are the only form.
use Rattle.std.specs.Prelude.{ℕ, zero, suc, ◌+◌, ◌/◌, ◌%◌, ◌^◌, List, [], ◌∷◌, Bool, ltb, eqb, length}
use Rattle.laws.specs.Pick.{pick}
use Rattle.varint.specs.declared.Number.{Number}

-- how many digits v has to the base of 128, zeros in front left out (0 has none), where it has at most so many
unfoldable pub digits : ℕ → ℕ → ℕ
digits zero v = 0
digits (suc most) v = pick (eqb v 0) 0 (suc (digits most (v / 128)))

-- the last n digits of v to the base of 128, most significant first and each with its top bit set, and s behind them
unfoldable pub sevens : ℕ → ℕ → List ℕ → List ℕ
sevens zero v s = s
sevens (suc n) v s = sevens n (v / 128) ((128 + v % 128) ∷ s)

-- below 2 ^ 56 its digits, the last with the top bit clear; from there on eight digits, and a byte of eight bits
unfoldable pub encode : ℕ → List ℕ
encode v =
    pick (ltb v (2 ^ 56)) (sevens (digits 7 (v / 128)) (v / 128) (v % 128 ∷ []))
    (sevens 8 (v / 256) (v % 256 ∷ []))

-- a number that took as many bytes as its value takes
unfoldable pub shortest : Number → Bool
shortest n = eqb n.length (length (encode n.value))
