-- What the header's functions come to step by step: a field by the table, the opening byte by byte, a `match` on a number.
use Prim.Native.Nat.{ℕ, zero, suc, ◌+◌, ◌-◌, ◌≤◌, ◌<◌}
use mathlib.Core.Path.{◌≡◌, refl, sym}
use mathlib.Core.Logic.{◌⊎◌, inl, inr}
use mathlib.Core.List.{List, [], ◌∷◌}
use mathlib.Core.Bool.{Bool, true, false, ◌&&◌, or-true}
use native.Mathlib.Nat.{le_trans, min-le_left}
use native.Mathlib.Omega.{arith}
use lib.Dec.{leb, eqb, leb→le}
use lib.Pointwise.{pointwise}
use Rattle.std.specs.List.{starts_with}
use lib.ListN.{length, take, drop, get_or, length-take}
use lib.Seq.{take_all}
use mir.Facts.{and_yes}
use borrow.Author.Tests.{eq-eqb, ne_eqb, eqb-true, eqb-false}
use Rattle.laws.proofs.Table.{at}
use Rattle.tables.specs.Tables.{field_at, field_width}
use Rattle.fields.specs.Fields.{unsigned}
use Rattle.header.specs.Header.{alike, among}

-- THE TABLE OF FIELDS

fits : ℕ → ℕ → Bool
fits i at = leb (get_or field_width i 0) 4 && leb (at + get_or field_width i 0) 100

-- every field has at most four bytes, and they stand in the first hundred
pub within : (i : ℕ) → i < 21 → (get_or field_width i 0 ≤ 4) × (get_or field_at i 0 + get_or field_width i 0 ≤ 100)
unfolding fits
within i h =
    let width = get_or field_width i 0 in
    let end = get_or field_at i 0 + width in
    let both = and_yes (leb width 4) (leb end 100) (at fits field_at tt i h) in
    (leb→le width 4 both.0, leb→le end 100 both.1)

-- so a reader of four bytes that is handed a field reads the field
pub read : (db : List ℕ) (at width : ℕ) → width ≤ 4
    → unsigned 4 (take (at + width - at) (drop at db)) ≡ unsigned width (drop at db)
read db at width h =
    let s = drop at db in
    let e : at + width - at ≡ width = omega arith in
    let short : length (take width s) ≤ 4 = rw (length-take width s) (le_trans (min-le_left width (length s)) h) in
    rw (e, take_all 4 (take width s) short)

-- THE OPENING

same-either : (x y : ℕ) → eqb x y ≡ eqb y x
same-either x y = go (eqb y x) refl
  where
    go : (b : Bool) → eqb y x ≡ b → eqb x y ≡ b
    go true e = eq-eqb x y (sym (eqb-true y x e))
    go false e = ne_eqb x y (λ h. eqb-false y x e (sym h))

-- as std compares
alike-pairs : (s l : List ℕ) → pointwise eqb l s ≡ alike s l
alike-pairs [] [] = refl
alike-pairs [] (y ∷ l) = refl
alike-pairs (x ∷ s) [] = refl
alike-pairs (x ∷ s) (y ∷ l) = rw (same-either y x, alike-pairs s l)

pub begins : (s l : List ℕ) → starts_with eqb s l ≡ alike (take (length l) s) l
begins s l = alike-pairs (take (length l) s) l

-- what is too short is not alike
pub short-unlike : (s l : List ℕ) → length s < length l → alike s l ≡ false
short-unlike [] [] h = absurd (omega arith)
short-unlike [] (y ∷ l) h = refl
short-unlike (x ∷ s) [] h = absurd (omega arith)
short-unlike (x ∷ s) (y ∷ l) h = rw (short-unlike s l (omega arith)) (and-false (eqb x y))
  where
    and-false : (b : Bool) → (b && false) ≡ false
    and-false true = refl
    and-false false = refl

-- ONE OF A LIST

-- as a `match` has it
abbrev pub OneOf : ℕ → List ℕ → Type 0
OneOf x [] = ⊥
OneOf x (y ∷ []) = x ≡ y
OneOf x (y ∷ z ∷ zs) = (x ≡ y) ⊎ OneOf x (z ∷ zs)

pub one-among : (x : ℕ) (ys : List ℕ) → OneOf x ys → among x ys ≡ true
one-among x [] o = absurd o
one-among x (y ∷ []) e = rw (eq-eqb x y e)
one-among x (y ∷ z ∷ zs) (inl e) = rw (eq-eqb x y e)
one-among x (y ∷ z ∷ zs) (inr o) = rw (one-among x (z ∷ zs) o) (or-true (eqb x y))

pub none-among : (x : ℕ) (ys : List ℕ) → (OneOf x ys → ⊥) → among x ys ≡ false
none-among x [] h = refl
none-among x (y ∷ []) h = rw (ne_eqb x y h)
none-among x (y ∷ z ∷ zs) h = rw (ne_eqb x y (λ e. h (inl e))) (none-among x (z ∷ zs) (λ o. h (inr o)))

-- the text encodings
pub encoding-known : (x : ℕ) → 1 ≤ x → x ≤ 3 → among x (1 ∷ 2 ∷ 3 ∷ []) ≡ true
encoding-known zero l h = absurd (omega arith)
encoding-known (suc zero) l h = refl
encoding-known (suc (suc zero)) l h = refl
encoding-known (suc (suc (suc zero))) l h = refl
encoding-known (suc (suc (suc (suc x)))) l h = absurd (omega arith)

pub encoding-unknown : (x : ℕ) → (1 ≤ x → x ≤ 3 → ⊥) → among x (1 ∷ 2 ∷ 3 ∷ []) ≡ false
encoding-unknown x n =
    rw (
      ne_eqb x 1 (λ e. n (omega arith) (omega arith)),
      ne_eqb x 2 (λ e. n (omega arith) (omega arith)),
      ne_eqb x 3 (λ e. n (omega arith) (omega arith)),
    )
