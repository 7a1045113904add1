-- Numbers in their place, from what is read of a cell and from the order.
use Prim.Native.Nat.{ℕ}
use mathlib.Core.Path.{◌≡◌, refl, ap}
use mathlib.Core.List.{List}
use mathlib.Core.Bool.{Bool, true, false}
use lib.IntN.{ℤ}
use Rattle.laws.specs.Pick.{pick}
use Rattle.laws.proofs.Never.{never}
use Rattle.answers.specs.declared.Fault.TheVariants as fa
use Rattle.answers.specs.declared.Refusal.{Refusal}
use Rattle.answers.specs.declared.Refusal.TheVariants.{InCell}
use Rattle.answers.specs.Answer.{◌>>=◌}
use Rattle.cell.specs.declared.Numbers.{Numbers}
use Rattle.page.specs.declared.Open.{Open}
use Rattle.cells.specs.Numbered.{numbers_in}
use Rattle.keys.specs.Key.{key_of, key_in}
use Rattle.order.specs.Order.{fits_in, placed, placed_in, placed_key}
use Rattle.std.specs.Prelude.{Err, Ok, Option, Result}

module _ (o : Open) (db : List ℕ) (most : ℤ) (i : ℕ) (low : Option ℤ) where
  -- by the cell's numbers
  pub unread : {r : Refusal} → numbers_in o i db ≡ Err r → placed_in o db most i low ≡ Err r
  unfolding placed_in
  unread e = rw e

  pub read : {n : Numbers} → numbers_in o i db ≡ Ok n → placed_in o db most i low ≡ placed o most i low n
  unfolding placed_in
  read e = rw e

  -- of a row number or key alone
  pub key-unread : {r : Refusal} → key_in o i db ≡ Err r → placed_key (placed_in o db most i low) ≡ Err r
  key-unread {r} e = go (numbers_in o i db) refl e
    where
      go : (x : Result Numbers Refusal) → numbers_in o i db ≡ x → (x >>= (λ n. Ok (key_of n))) ≡ Err r
          → placed_key (placed_in o db most i low) ≡ Err r
      go (Err other) q d = let k : other ≡ r = cc in rw (unread q, k)
      go (Ok n) q d = never cc

  module _ {x : ℤ} (e : key_in o i db ≡ Ok x) where
    pub key_fits : fits_in low most x ≡ true → placed_key (placed_in o db most i low) ≡ Ok x
    key_fits f = go (numbers_in o i db) refl e
      where
        go : (y : Result Numbers Refusal) → numbers_in o i db ≡ y → (y >>= (λ n. Ok (key_of n))) ≡ Ok x
            → placed_key (placed_in o db most i low) ≡ Ok x
        go (Err other) q d = never cc
        go (Ok n) q d = let k : key_of n ≡ x = cc in rw (read q, k, f) (ap Ok k)

    pub key-out : fits_in low most x ≡ false → placed_key (placed_in o db most i low) ≡ Err (InCell o.page.number i fa.OutOfOrder)
    key-out f = go (numbers_in o i db) refl e
      where
        go : (y : Result Numbers Refusal) → numbers_in o i db ≡ y → (y >>= (λ n. Ok (key_of n))) ≡ Ok x
            → placed_key (placed_in o db most i low) ≡ Err (InCell o.page.number i fa.OutOfOrder)
        go (Err other) q d = never cc
        go (Ok n) q d = let k : key_of n ≡ x = cc in rw (read q, k, f)

-- what is in its place was read, and fits
pub placed-read : (o : Open) (db : List ℕ) (most : ℤ) (i : ℕ) (low : Option ℤ) {n : Numbers} → placed_in o db most i low ≡ Ok n
    → (numbers_in o i db ≡ Ok n) × (fits_in low most (key_of n) ≡ true)
unfolding placed_in
placed-read o db most i low {n} e = by-numbers (numbers_in o i db) e
  where
    by_order : (m : Numbers) (b : Bool) → fits_in low most (key_of m) ≡ b → pick b (Ok m) (Err (InCell o.page.number i fa.OutOfOrder)) ≡ Ok n
        → (m ≡ n) × (fits_in low most (key_of n) ≡ true)
    by_order m true t d = let k : m ≡ n = cc in (k, rw (← k) t)
    by_order m false t d = never cc

    by-numbers : (x : Result Numbers Refusal) → (x >>= placed o most i low) ≡ Ok n → (x ≡ Ok n) × (fits_in low most (key_of n) ≡ true)
    by-numbers (Err r) d = never cc
    by-numbers (Ok m) d = let o = by_order m (fits_in low most (key_of m)) refl d in (ap Ok o.0, o.1)
