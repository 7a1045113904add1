-- Which patterns are a NaN's, which types are long, and what those of both readings come to.
use Prim.Native.Nat.{ℕ, ◌-◌, ◌/◌, ◌%◌, ◌≤◌, ◌<◌}
use mathlib.Core.Path.{◌≡◌, refl, sym, ◌∙◌}
use mathlib.Core.List.{List}
use mathlib.Core.Bool.{Bool, true, false, not}
use native.Mathlib.Omega.{arith}
use lib.Dec.{T, ltb, eqb}
use lib.IntN.{pos}
use lib.Ieee.{Float, nan, inf, fin, binary64, of_bits, nan_bits, is_nan, div}
use lib.Ieee.Bits.{nan_bits_is, nan_bits_above}
use borrow.Author.Tests.{lt-ltb, le-ltb, eq-eqb, ne_eqb, eqb-true, ltb-true, ltb-false}
use Rattle.laws.specs.Pick.{pick}
use Rattle.serial.specs.Serial.{is_blob, length_of}
use Rattle.serial.proofs.Laws.{length-either}
use Rattle.values.specs.File as file
use Rattle.values.specs.Old as old
use Rattle.values.specs.declared.old.Value.TheVariants.{I8}

-- the largest pattern, without its sign, that is no NaN's: infinity's
abbrev infinity : ℕ
infinity = 0x7ff0_0000_0000_0000

abbrev unsigned-bits : ℕ → ℕ
unsigned-bits bits = bits % 0x8000_0000_0000_0000

pub no_nan : (bits : ℕ) → unsigned-bits bits ≤ infinity → T (not (nan_bits binary64 bits))
no_nan bits h = rw (nan_bits_above binary64 bits, le-ltb infinity (unsigned-bits bits) h) tt

is-nan : (x : Float) → is_nan x ≡ true → x ≡ nan
unfolding is_nan
is-nan nan e = refl
is-nan (inf s) e = let z : ◌≡◌ {A = ℕ} 0 1 = cc in absurd (omega arith)
is-nan (fin s m k) e = let z : ◌≡◌ {A = ℕ} 0 1 = cc in absurd (omega arith)

pub the_nan : (bits : ℕ) → infinity < unsigned-bits bits → div binary64 (of_bits binary64 0) (of_bits binary64 0) ≡ of_bits binary64 bits
unfolding div of_bits
the_nan bits h =
    sym (is-nan (of_bits binary64 bits) (sym (nan_bits_is binary64 bits) ∙ nan_bits_above binary64 bits ∙ lt-ltb infinity (unsigned-bits bits) h))

-- below 14 a text or a blob would have no bytes
pub no_bytes : (serial : ℕ) → eqb (length_of serial) 0 ≡ ltb serial 14
no_bytes serial = go (ltb serial 14) refl
  where
    short : serial < 14 → (b : Bool) → is_blob serial ≡ b → pick b ((serial - 12) / 2) ((serial - 13) / 2) ≡ 0
    short h true e = let even = eqb-true (serial % 2) 0 e in omega arith
    short h false e = omega arith

    go : (b : Bool) → ltb serial 14 ≡ b → eqb (length_of serial) 0 ≡ b
    go true e = eq-eqb (length_of serial) 0 (short (ltb-true serial 14 e) (is_blob serial) refl)
    go false e =
        let h = ltb-false serial 14 e in
        let l = length-either serial (omega arith) in
        let n : length_of serial ≡ 0 → ⊥ = λ z. omega (arith, l ∙ z) in
        ne_eqb (length_of serial) 0 n

-- past the types of fixed width
module _ (serial at : ℕ) (s : List ℕ) (h : 10 ≤ serial) where
  pub file-long : file.value_of serial at s ≡ file.long_of serial at
  unfolding file.value_of
  file-long =
      rw (ne_eqb serial 0 (omega arith), le-ltb serial 7 (omega arith), ne_eqb serial 7 (omega arith), ne_eqb serial 8 (omega arith), ne_eqb serial 9 (omega arith))

  pub old-long : old.value_of serial at s ≡ old.long_of serial at
  unfolding old.value_of
  old-long =
      rw (
        ne_eqb serial 0 (omega arith),
        ne_eqb serial 1 (omega arith),
        ne_eqb serial 2 (omega arith),
        le-ltb serial 5 (omega arith),
        le-ltb serial 7 (omega arith),
        ne_eqb serial 7 (omega arith),
        le-ltb serial 10 (omega arith),
      )

-- the types that hold no bytes and are integers
pub old-constant : (serial at : ℕ) (s : List ℕ) → 8 ≤ serial → serial < 10 → old.value_of serial at s ≡ I8 (pos 0)
unfolding old.value_of
old-constant serial at s h l =
    rw (
      ne_eqb serial 0 (omega arith),
      ne_eqb serial 1 (omega arith),
      ne_eqb serial 2 (omega arith),
      le-ltb serial 5 (omega arith),
      le-ltb serial 7 (omega arith),
      ne_eqb serial 7 (omega arith),
      lt-ltb serial 10 l,
    )
