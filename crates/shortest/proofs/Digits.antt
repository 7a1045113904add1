-- How many digits a number has to the base of 128: the fewest that can hold it.
use Prim.Native.Nat.{ℕ, zero, suc, ◌+◌, ◌-◌, ◌/◌, ◌^◌, ◌≤◌, ◌<◌}
use mathlib.Core.Path.{◌≡◌, refl}
use mathlib.Core.Bool.{Bool, true, false}
use native.Mathlib.Nat.{pow-suc}
use native.Mathlib.Omega.{arith}
use lib.Dec.{eqb}
use borrow.Author.Tests.{eqb-true, eqb-false, eq-eqb, ne_eqb}
use Rattle.laws.specs.Pick.{pick}
use Rattle.shortest.specs.Shortest.{digits}

pub digits-zero : (most v : ℕ) → v ≡ 0 → digits most v ≡ 0
unfolding digits
digits-zero zero v h = refl
digits-zero (suc most) v h = rw (eq-eqb v 0 h)

pub digits_more : (most v : ℕ) → (v ≡ 0 → ⊥) → digits (suc most) v ≡ suc (digits most (v / 128))
unfolding digits
digits_more most v h = rw (ne_eqb v 0 h)

pub digits-most : (most v : ℕ) → digits most v ≤ most
unfolding digits
digits-most zero v = omega arith
digits-most (suc most) v = go (eqb v 0) (digits-most most (v / 128))
  where
    go : (b : Bool) → digits most (v / 128) ≤ most → pick b 0 (suc (digits most (v / 128))) ≤ suc most
    go true h = omega arith
    go false h = omega arith

-- the last digit taken off
pub digit-less : (n v : ℕ) → v < 128 ^ suc n → v / 128 < 128 ^ n
digit-less n v h = let e = pow-suc 128 n in omega arith

-- v is held by as many digits as it has
pub digits-hold : (most v : ℕ) → v < 128 ^ most → v < 128 ^ digits most v
unfolding digits
digits-hold zero v h = h
digits-hold (suc most) v h = go (eqb v 0) refl (digits-hold most (v / 128) (digit-less most v h))
  where
    go : (b : Bool) → eqb v 0 ≡ b → v / 128 < 128 ^ digits most (v / 128) → v < 128 ^ pick b 0 (suc (digits most (v / 128)))
    go true e l = let z = eqb-true v 0 e in omega arith
    go false e l = let p = pow-suc 128 (digits most (v / 128)) in omega arith

-- and by no fewer
pub digits-fewest : (most n v : ℕ) → v < 128 ^ n → digits most v ≤ n
digits-fewest zero n v h = let none = digits-most zero v in omega arith
digits-fewest (suc most) zero v h = rw (digits-zero (suc most) v (omega arith)) (omega arith)
digits-fewest (suc most) (suc n) v h = go (eqb v 0) refl (digits-fewest most n (v / 128) (digit-less n v h))
  where
    go : (b : Bool) → eqb v 0 ≡ b → digits most (v / 128) ≤ n → digits (suc most) v ≤ suc n
    go true e l = rw (digits-zero (suc most) v (eqb-true v 0 e)) (omega arith)
    go false e l = rw (digits_more most v (eqb-false v 0 e)) (omega arith)

-- one more digit counted: n are, of at most eight, and v has the others
module _ (n v : ℕ) (some : v ≡ 0 → ⊥) (below : v < 128 ^ (8 - n)) where
  pub more_left : n + 1 ≤ 8
  more_left = go (8 - n) refl below
    where
      go : (k : ℕ) → 8 - n ≡ k → v < 128 ^ k → n + 1 ≤ 8
      go zero e h = absurd (omega arith)
      go (suc k) e h = omega arith

  left : 8 - n ≡ suc (8 - (n + 1))
  left = let h = more_left in omega arith

  pub less-left : v / 128 < 128 ^ (8 - (n + 1))
  less-left = digit-less (8 - (n + 1)) v (rw left at below)

  pub one-counted : n + 1 + digits (8 - (n + 1)) (v / 128) ≡ n + digits (8 - n) v
  one-counted = rw left (let e = digits_more (8 - (n + 1)) v some in omega arith)
