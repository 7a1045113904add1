-- Numbers and refusals as text, in ASCII.
use Rattle.std.specs.Prelude.{ℕ, zero, suc, ◌+◌, ◌^◌, List, [], ◌∷◌, ◌++◌, ltb, ℤ, pos, negsuc}
use Rattle.laws.specs.Pick.{pick}
use Rattle.print.specs.Digits.{last_digits}
use Rattle.answers.specs.declared.Numbers.{Numbers}

-- how many decimal digits a number takes, if they are k at least
abbrev pub places_from : ℕ → ℕ → ℕ → ℕ
places_from zero k n = k
places_from (suc fuel) k n = pick (ltb n (10 ^ k)) k (places_from fuel (k + 1) n)

-- a number of 64 bits has 20 of them at most
unfoldable pub decimal_of : ℕ → List ℕ
decimal_of n = last_digits 10 (places_from 20 1 n) n

-- with a `-` before a number below zero
abbrev pub signed_of : ℤ → List ℕ
signed_of (pos n) = decimal_of n
signed_of (negsuc n) = 0x2d ∷ decimal_of (suc n)

-- all 64 bits, in hexadecimal
unfoldable pub bits_of : ℕ → List ℕ
bits_of n = last_digits 16 16 n

-- a space, and a number
abbrev pub field_of : ℕ → List ℕ
field_of n = 0x20 ∷ decimal_of n

-- ` refused`, the five numbers, and the line's end
abbrev pub refused_of : Numbers → List ℕ
refused_of r =
    (0x20 ∷ 0x72 ∷ 0x65 ∷ 0x66 ∷ 0x75 ∷ 0x73 ∷ 0x65 ∷ 0x64 ∷ [])
    ++ field_of r.number ++ field_of r.page ++ field_of r.cell ++ field_of r.column ++ field_of r.mark ++ 0x0a ∷ []
