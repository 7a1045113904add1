-- The fewest digits that hold a number are how many the definitions count.
use Prim.Native.Nat.{ℕ, zero, suc, ◌+◌, ◌-◌, ◌^◌, ◌≤◌, ◌<◌}
use mathlib.Core.Path.{◌≡◌, refl, sym, ap}
use mathlib.Core.Bool.{Bool, true, false}
use native.Mathlib.Nat.{pow-le-pow_right}
use native.Mathlib.Omega.{arith}
use lib.Dec.{ltb, lit<}
use borrow.Author.Tests.{ltb-true, ltb-false}
use Rattle.print.specs.Digits.{last_digits, IsDigitCount}
use Rattle.laws.specs.Pick.{pick}
use Rattle.print.specs.Text.{places_from, decimal_of}

-- with j digits n is held, and k are the fewest from j on
fewest : (b j k n : ℕ) → 0 < b → j ≤ k → n < b ^ j → (j < k → b ^ (k - 1) ≤ n) → j ≡ k
fewest b j k n p h below least = go (ltb j k) refl
  where
    go : (t : Bool) → ltb j k ≡ t → j ≡ k
    go true e =
        let l = ltb-true j k e in
        let m : b ^ j ≤ b ^ (k - 1) = pow-le-pow_right p {i = j} {j = k - 1} (omega arith) in
        absurd (omega (arith, m, least l, below))
    go false e = omega (arith, ltb-false j k e)

places : (fuel j k n : ℕ) → j ≤ k → k < j + fuel → n < 10 ^ k → (j < k → 10 ^ (k - 1) ≤ n) → places_from fuel j n ≡ k
places zero j k n h l below least = absurd (omega arith)
places (suc fuel) j k n h l below least =
    go (ltb n (10 ^ j)) refl (λ (m : j < k). places fuel (j + 1) k n (omega arith) (omega arith) below (λ z. least m))
  where
    more : 10 ^ j ≤ n → (t : Bool) → ltb j k ≡ t → j < k
    more g true e = ltb-true j k e
    more g false e =
        let same : j ≡ k = omega (arith, ltb-false j k e) in
        let powers : 10 ^ j ≡ 10 ^ k = ap (λ (i : ℕ). 10 ^ i) same in
        absurd (omega (arith, powers))

    go : (t : Bool) → ltb n (10 ^ j) ≡ t → (j < k → places_from fuel (j + 1) n ≡ k) → pick t j (places_from fuel (j + 1) n) ≡ k
    go true e on = fewest 10 j k n (lit< tt) h (ltb-true n (10 ^ j) e) least
    go false e on = on (more (ltb-false n (10 ^ j) e) (ltb j k) refl)

-- a number of 64 bits has at most 20 digits
few : (n k : ℕ) → n < 2 ^ 64 → IsDigitCount 10 1 n k → (t : Bool) → ltb 20 k ≡ t → k ≤ 20
few n k h f true e =
    let l = ltb-true 20 k e in
    let m : 10 ^ 20 ≤ 10 ^ (k - 1) = pow-le-pow_right (lit< tt) {i = 20} {j = k - 1} (omega arith) in
    absurd (omega (arith, m, f.2 (omega arith)))
few n k h f false e = ltb-false 20 k e

pub decimal-is : (n k : ℕ) → n < 2 ^ 64 → IsDigitCount 10 1 n k → last_digits 10 k n ≡ decimal_of n
unfolding decimal_of
decimal-is n k h f =
    let l = few n k h f (ltb 20 k) refl in
    ap (λ (i : ℕ). last_digits 10 i n) (sym (places 20 1 k n f.0 (omega arith) f.1 f.2))
