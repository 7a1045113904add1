-- Two's complement, for every width: the two halves of its patterns, and what -1 - n is.
use Prim.Native.Nat.{ℕ, zero, suc, ◌+◌, ◌-◌, ◌*◌, ◌^◌, ◌≤◌, ◌<◌}
use mathlib.Core.Bool.{Bool, true, false}
use mathlib.Core.Path.{◌≡◌, refl, ap}
use native.Mathlib.Nat.{zero-add}
use native.Mathlib.Omega.{arith}
use lib.Dec.{ltb}
use lib.IntN.{ℤ, pos, negsuc, neg_ℤ, ◌+ℤ◌, ◌-ℤ◌, ◌*ℤ◌}
use lib.Signed.{mag}
use borrow.Author.Tests.{lt-ltb, le-ltb, ltb-true, ltb-false}
use mir.Syntax.{w64}
use mir.Val.{to_z}
use mir.Facts.{to_z_pos}
use Rattle.fields.specs.Fields.{twos}

negative : (n : ℕ) → 0 < n → neg_ℤ (pos n) ≡ negsuc (n - 1)
negative zero h = absurd (omega arith)
negative (suc n) h = let e : suc n - 1 ≡ n = omega arith in rw e

module _ (top v : ℕ) where
  pub lower : v < top → twos (2 * top) v ≡ pos v
  unfolding twos
  lower h = rw (lt-ltb (2 * v) (2 * top) (omega arith))

  pub upper : top ≤ v → v < 2 * top → twos (2 * top) v ≡ negsuc (top - 1 - (v - top))
  unfolding twos
  upper h k =
      let e : 2 * top - suc v ≡ top - 1 - (v - top) = omega arith in
      rw (le-ltb (2 * v) (2 * top) (omega arith), lt-ltb v (2 * top) k, e)

  -- v less all patterns, where its top bit is set
  pub less-all : top ≤ v → v < 2 * top → pos v -ℤ pos (2 * top) ≡ negsuc (top - 1 - (v - top))
  less-all h k =
      let f : suc (2 * top - 1) ≡ 2 * top = omega arith in
      let e : 2 * top - suc v ≡ top - 1 - (v - top) = omega arith in
      rw (negative (2 * top) (omega arith), f, lt-ltb v (2 * top) k, e)

minus_one : (n : ℕ) → negsuc 0 -ℤ pos n ≡ negsuc n
minus_one zero = refl
minus_one (suc n) = ap negsuc (ap suc (zero-add n))

-- as the code has it, at 64 bits
pub minus : (n : ℕ) → n < 2 ^ 63 → negsuc 0 -ℤ to_z w64 n ≡ negsuc n
minus n h = rw (to_z_pos w64 h) (minus_one n)

-- TWO FIELDS AS ONE: the upper in two's complement, the lower behind it

-- a field of two bytes, moved up by four
pub moved : (z : ℤ) → 2 * mag z < 256 ^ 2 → mag (z *ℤ pos 4294967296) < 2 ^ 63
moved (pos a) h = omega arith
moved (negsuc k) h = rw (negative (suc k * 4294967296) (omega arith)) (omega arith)

-- with a field of four bytes behind it
pub held : (z : ℤ) (b : ℕ) → 2 * mag z < 256 ^ 2 → b < 4294967296 → mag (z *ℤ pos 4294967296 +ℤ pos b) < 2 ^ 63
held (pos a) b h l = omega arith
held (negsuc k) b h l =
    let n : ℕ = suc k * 4294967296 in
    let f : suc (n - 1) ≡ n = omega arith in
    rw (negative n (omega arith), f, lt-ltb b n (omega arith)) (omega arith)

module _ (a b : ℕ) (l : a < 65536) (m : b < 4294967296) where
  low : a < 32768 → twos (256 ^ 2) a *ℤ pos 4294967296 +ℤ pos b ≡ twos (256 ^ 6) (a * 4294967296 + b)
  low h = rw (lower 32768 a h, lower 0x8000_0000_0000 (a * 4294967296 + b) (omega arith))

  high : 32768 ≤ a → twos (256 ^ 2) a *ℤ pos 4294967296 +ℤ pos b ≡ twos (256 ^ 6) (a * 4294967296 + b)
  high h =
      let k = 32768 - 1 - (a - 32768) in
      let n : ℕ = suc k * 4294967296 in
      let e : n - suc b ≡ 0x8000_0000_0000 - 1 - (a * 4294967296 + b - 0x8000_0000_0000) = omega arith in
      let f : suc (n - 1) ≡ n = omega arith in
      rw (upper 32768 a h (omega arith), upper 0x8000_0000_0000 (a * 4294967296 + b) (omega arith) (omega arith), negative n (omega arith), f, lt-ltb b n (omega arith), e)

  pub joined : twos (256 ^ 2) a *ℤ pos 4294967296 +ℤ pos b ≡ twos (256 ^ 6) (a * 4294967296 + b)
  joined = go (ltb a 32768) refl
    where
      go : (t : Bool) → ltb a 32768 ≡ t → twos (256 ^ 2) a *ℤ pos 4294967296 +ℤ pos b ≡ twos (256 ^ 6) (a * 4294967296 + b)
      go true e = low (ltb-true a 32768 e)
      go false e = high (ltb-false a 32768 e)
