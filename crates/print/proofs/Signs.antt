-- A number below zero, turned: what -1 - z is, and how far it falls short of z without its sign. And a number as text.
use Prim.Native.Nat.{suc, ◌+◌, ◌-◌}
use mathlib.Core.Path.{◌≡◌, refl, subst}
use mathlib.Core.List.{◌∷◌}
use mathlib.Core.Bool.{Bool, true, false}
use native.Mathlib.Numerals.{add-one}
use native.Mathlib.Omega.{arith}
use lib.Dec.{T}
use lib.IntN.{ℤ, pos, negsuc, nat_abs, ◌-ℤ◌}
use lib.Signed.{mag, lt_z, non_neg}
use mir.Syntax.{w64}
use mir.Val.{SFits, to_z, of_z}
use mir.Facts.{to_z-of_z}
use borrow.Author.Tests.{le-ltb, ltb-true}
use Rattle.print.specs.Text.{decimal_of, signed_of}

-- the test is of the number as the machine holds it, and so is what is turned
pub told : (z : ℤ) (b : Bool) → SFits w64 z → lt_z (to_z w64 (of_z w64 z)) (pos 0) ≡ b → lt_z z (pos 0) ≡ b
told z b fits h = subst (λ y. lt_z y (pos 0) ≡ b) (to_z-of_z fits) h

pub turned : (z : ℤ) → lt_z z (pos 0) ≡ true → negsuc 0 -ℤ z ≡ pos (mag z)
turned (pos n) h = absurd (omega (arith, ltb-true n 0 h))
turned (negsuc n) h = let e : suc n - 1 ≡ n = omega arith in rw (le-ltb (suc n) 1 (omega arith), e)

pub one_more : (z : ℤ) → lt_z z (pos 0) ≡ true → mag z + 1 ≡ nat_abs z
one_more (pos n) h = absurd (omega (arith, ltb-true n 0 h))
one_more (negsuc n) h = add-one n

pub kept : (z : ℤ) → lt_z z (pos 0) ≡ false → T (non_neg z)
kept (pos n) h = tt
kept (negsuc n) h = subst T h tt

-- AS TEXT

pub below-zero : (z : ℤ) → lt_z z (pos 0) ≡ true → signed_of z ≡ 0x2d ∷ decimal_of (nat_abs z)
below-zero (pos n) h = absurd (omega (arith, ltb-true n 0 h))
below-zero (negsuc n) h = refl

pub from_zero : (z : ℤ) → lt_z z (pos 0) ≡ false → signed_of z ≡ decimal_of (nat_abs z)
from_zero (pos n) h = refl
from_zero (negsuc n) h = absurd (subst T h tt)
