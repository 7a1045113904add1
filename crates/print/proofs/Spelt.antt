-- Spelling one byte more.
use Prim.Native.Nat.{ℕ, suc, ◌+◌, ◌*◌, ◌/◌, ◌%◌, ◌<◌}
use mathlib.Core.Path.{◌≡◌, ap, ◌∙◌}
use mathlib.Core.List.{List, [], ◌∷◌, ◌++◌, append_assoc}
use native.Mathlib.Numerals.{add-one}
use native.Mathlib.Omega.{arith}
use lib.ListN.{length, take, drop, get_or, set}
use lib.Seq.{take-suc-set, lt-length-set, drop-cons, append_snoc}
use Rattle.print.specs.Digits.{hex_digit_ascii}
use Rattle.print.specs.Hex.{hex_of}

-- two stores, one after the other
two-more : (out : List ℕ) (n x y : ℕ) → suc n < length out
    → take (suc (suc n)) (set (set out n x) (suc n) y) ≡ take n out ++ x ∷ y ∷ []
two-more out n x y h =
    take-suc-set (set out n x) (suc n) y (lt-length-set out n x h)
    ∙ ap (λ l. l ++ (y ∷ [])) (take-suc-set out n x (omega arith))
    ∙ append_snoc (take n out) x (y ∷ [])

-- The byte at i is spelt after the digits of those before it, and the bytes after it are still to come.
pub step : (s out : List ℕ) (i : ℕ) → i < length s → 2 * i + 1 < length out
    → take (2 * (i + 1)) (set (set out (2 * i) (hex_digit_ascii (get_or s i 0 / 16))) (2 * i + 1) (hex_digit_ascii (get_or s i 0 % 16)))
    ++ hex_of (drop (i + 1) s)
    ≡ take (2 * i) out ++ hex_of (drop i s)
step s out i h k =
    let b = get_or s i 0 in
    let two : 2 * (i + 1) ≡ suc (suc (2 * i)) = omega arith in
    let one : 2 * i + 1 ≡ suc (2 * i) = omega arith in
    let more = two-more out (2 * i) (hex_digit_ascii (b / 16)) (hex_digit_ascii (b % 16)) (omega arith) in
    rw (two, one, add-one, more, drop-cons s i 0 h) (append_assoc (take (2 * i) out) _ _)
