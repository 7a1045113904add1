-- What callers cite of serial types.
use Prim.Native.Nat.{ℕ, zero-le, ◌+◌, ◌-◌, ◌/◌, ◌%◌, ◌≤◌, ◌<◌}
use mathlib.Core.Path.{◌≡◌, refl, sym, ◌∙◌}
use mathlib.Core.Bool.{Bool, true, false}
use native.Mathlib.Omega.{arith}
use lib.Dec.{ltb, eqb}
use lib.ListN.{get_or, get_or-eq_default}
use borrow.Author.Tests.{lt-ltb, le-ltb, ltb-true, ltb-false, eqb-false}
use Rattle.laws.specs.Pick.{pick}
use Rattle.laws.proofs.Never.{never}
use Rattle.tables.specs.Tables.{widths}
use Rattle.serial.specs.Serial.{length_of, width_of}
use Rattle.std.specs.Prelude.{None, Some}

-- a text's length and a blob's are one sum
pub length-either : (serial : ℕ) → 12 ≤ serial → (serial - 12) / 2 ≡ length_of serial
length-either serial h = go (eqb (serial % 2) 0) refl
  where
    go : (b : Bool) → eqb (serial % 2) 0 ≡ b → (serial - 12) / 2 ≡ pick b ((serial - 12) / 2) ((serial - 13) / 2)
    go true e = refl
    go false e = let odd = eqb-false (serial % 2) 0 e in omega arith

-- what is none of the numbers up to n is past it
pub past : (n : ℕ) {k : ℕ} → n ≤ k → (k ≡ n → ⊥) → n + 1 ≤ k
past n h e = omega arith

abbrev other : ℕ → ℕ → Type 0
other serial n = serial ≡ n → ⊥

-- a type that no arm from 0 to 9 names
pub ten : {k : ℕ} → (((((((((Unit {0} × other k 0) × other k 1) × other k 2) × other k 3) × other k 4) × other k 5) × other k 6) × other k 7) × other k 8) × other k 9 → 10 ≤ k
ten (((((((((((u, n0), n1), n2), n3), n4), n5), n6), n7), n8), n9)) =
    past 9 (past 8 (past 7 (past 6 (past 5 (past 4 (past 3 (past 2 (past 1 (past 0 zero-le n0) n1) n2) n3) n4) n5) n6) n7) n8) n9

-- past the table
pub no-width : (serial : ℕ) → 10 ≤ serial → get_or widths serial 0 ≡ 0
no-width serial h = get_or-eq_default widths 0 {n = serial} h

module _ (serial : ℕ) where
  pub width_small : serial < 10 → width_of serial ≡ Some (get_or widths serial 0)
  unfolding width_of
  width_small h = rw (lt-ltb serial 10 h)

  pub width-reserved : 10 ≤ serial → serial < 12 → width_of serial ≡ None
  unfolding width_of
  width-reserved h k = rw (le-ltb serial 10 h, lt-ltb serial 12 k)

  pub width-long : 12 ≤ serial → width_of serial ≡ Some (length_of serial)
  unfolding width_of
  width-long h = rw (le-ltb serial 10 (omega arith), le-ltb serial 12 h)

  -- past the table, a type that has a width is a text or a blob
  pub width-past : {w : ℕ} → 10 ≤ serial → width_of serial ≡ Some w → (12 ≤ serial) × (w ≡ length_of serial)
  width-past {w} h e = go (ltb serial 12) refl
    where
      go : (b : Bool) → ltb serial 12 ≡ b → (12 ≤ serial) × (w ≡ length_of serial)
      go true d = let r = sym (width-reserved h (ltb-true serial 12 d)) ∙ e in never cc
      go false d = let l = ltb-false serial 12 d in let r = sym (width-long l) ∙ e in (l, cc)
