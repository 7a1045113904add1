-- Bytes as text: two hexadecimal digits for each, the upper one first.
use Rattle.std.specs.Prelude.{ℕ, ◌/◌, ◌%◌, List, [], ◌∷◌}
use Rattle.print.specs.Digits.{hex_digit_ascii}

abbrev pub hex_of : List ℕ → List ℕ
hex_of [] = []
hex_of (b ∷ s) = hex_digit_ascii (b / 16) ∷ hex_digit_ascii (b % 16) ∷ hex_of s
