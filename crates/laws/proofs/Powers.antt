-- Numbers written in digits: the bound that one digit more keeps, for every base.
use Prim.Native.Nat.{ℕ, ◌+◌, ◌*◌, ◌^◌, ◌≤◌, ◌<◌}
use native.Mathlib.Nat.{pow-suc, pow-le-pow_right, lt_of_lt_of_le}
use native.Mathlib.Numerals.{add-one}
use lib.Arith.{digits_lt}

-- i digits and one more
pub digit-more : (base : ℕ) {v x : ℕ} (i : ℕ) → v < base ^ i → x < base → v * base + x < base ^ (i + 1)
digit-more base i p q = rw (add-one, pow-suc) (digits_lt p q)

-- i digits are below what k digits are below
pub digits-within : (base : ℕ) {v : ℕ} (i k : ℕ) → 0 < base → i ≤ k → v < base ^ i → v < base ^ k
digits-within base i k b h p = lt_of_lt_of_le p (pow-le-pow_right b h)
