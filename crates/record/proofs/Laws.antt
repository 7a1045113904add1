-- What callers cite of a record's types: the equations by which they are read, with no fuel in them; how values lie; and
-- that a walk ends as its types do.
use Prim.Native.Nat.{ℕ, zero, suc, ◌+◌, ◌-◌, ◌≤◌, ◌<◌}
use mathlib.Core.Path.{◌≡◌, refl, sym, ap, ◌∙◌}
use mathlib.Core.List.{List, [], ◌∷◌}
use native.Mathlib.Omega.{arith}
use lib.ListN.{length, take, drop, length-drop, drop_of_length-le}
use lib.Seq.{drop-drop}
use native.Mathlib.Nat.{le_of_eq}
use borrow.Author.Tests.{lt-ltb, le-ltb, ne_eqb}
use Rattle.laws.proofs.Parts.{tail}
use Rattle.varint.specs.declared.Number.{Number}
use Rattle.varint.specs.declared.Cause.{Cause}
use Rattle.varint.specs.Varint.{varint_of}
use Rattle.varint.proofs.Laws.{length-bounds}
use Rattle.serial.specs.Serial.{width_of}
use Rattle.record.specs.declared.Laid.TheVariants.{Ends, Reserved, Passes}
use Rattle.record.specs.Types.{Types, done, broken, column, typed, types, types_of, count, nth_type, walk}
use Rattle.std.specs.Prelude.{Err, None, Ok, Result, Some}

-- TYPES

fuel-nil : (limit k : ℕ) → types limit k [] ≡ done
unfolding types
fuel-nil limit zero = refl
fuel-nil limit (suc k) = refl

-- as many types as bytes are enough
fuel : (limit k j : ℕ) (s : List ℕ) → length s ≤ k → length s ≤ j → types limit k s ≡ types limit j s
unfolding types
fuel limit zero j [] h l = sym (fuel-nil limit j)
fuel limit zero j (b ∷ s) h l = absurd (omega arith)
fuel limit (suc k) zero [] h l = refl
fuel limit (suc k) zero (b ∷ s) h l = absurd (omega arith)
fuel limit (suc k) (suc j) [] h l = refl
fuel limit (suc k) (suc j) (b ∷ s) h l = go (varint_of limit (b ∷ s)) refl (λ m lk lj. fuel limit k j (drop m (b ∷ s)) lk lj)
  where
    go : (v : Result Number Cause) → varint_of limit (b ∷ s) ≡ v
        → ((m : ℕ) → length (drop m (b ∷ s)) ≤ k → length (drop m (b ∷ s)) ≤ j → types limit k (drop m (b ∷ s)) ≡ types limit j (drop m (b ∷ s)))
        → typed v (λ n. types limit k (drop n (b ∷ s))) ≡ typed v (λ n. types limit j (drop n (b ∷ s)))
    go (Err c) e ih = refl
    go (Ok t) e ih =
        let w = length-bounds (b ∷ s) limit e in
        ap (column t) (ih t.length (rw length-drop (omega arith)) (rw length-drop (omega arith)))

pub types-nil : (limit : ℕ) → types_of limit [] ≡ done
types-nil limit = fuel-nil limit 0

-- where there are bytes, what the varint at their head says
opened : (limit : ℕ) (s : List ℕ) → 0 < length s → types_of limit s ≡ typed (varint_of limit s) (λ n. types limit (length s - 1) (drop n s))
unfolding types
opened limit [] h = absurd (omega arith)
opened limit (b ∷ s) h = let e : suc (length s) - 1 ≡ length s = omega arith in rw e

module _ (limit : ℕ) (s : List ℕ) where
  pub types-next : {t : Number} → varint_of limit s ≡ Ok t → types_of limit s ≡ column t (types_of limit (drop t.length s))
  types-next {t} e =
      let w = length-bounds s limit e in
      opened limit s (omega arith)
      ∙ rw e (ap (column t) (fuel limit (length s - 1) (length (drop t.length s)) (drop t.length s) (rw length-drop (omega arith)) (le_of_eq refl)))

  pub types-broken : {c : Cause} → 0 < length s → varint_of limit s ≡ Err c → types_of limit s ≡ broken
  types-broken h e = opened limit s h ∙ rw e

-- no type is counted where none is read
pub none-counted : (limit : ℕ) (s : List ℕ) {c : Cause} → varint_of limit s ≡ Err c → count (types_of limit s) ≡ 0
none-counted limit [] e = ap count (types-nil limit)
none-counted limit (b ∷ s) e = ap count (types-broken limit (b ∷ s) (omega arith) e)

-- at a place of the bytes, where the code hands `&t[at..]` on
module _ (limit : ℕ) (t : List ℕ) (at : ℕ) where
  pub read_at : {r v : Result Number Cause} → r ≡ varint_of limit (take (length t - at) (drop at t)) → r ≡ v → varint_of limit (drop at t) ≡ v
  read_at p q = rw (tail t at) at (sym p) ∙ q

  pub room_at : {n : Number} → at ≤ length t → varint_of limit (drop at t) ≡ Ok n → (1 ≤ n.length) × (at + n.length ≤ length t)
  room_at h e = let w = simp length-drop at (length-bounds (drop at t) limit e) in omega arith

  pub types-at : {n : Number} → varint_of limit (drop at t) ≡ Ok n
      → types_of limit (drop at t) ≡ column n (types_of limit (drop (at + n.length) t))
  types-at e = rw drop-drop at (types-next limit (drop at t) e)

  pub types-break : {c : Cause} → at < length t → varint_of limit (drop at t) ≡ Err c → types_of limit (drop at t) ≡ broken
  types-break h e = types-broken limit (drop at t) (rw length-drop (omega arith)) e

  pub types-end : length t ≤ at → types_of limit (drop at t) ≡ done
  types-end h = rw (drop_of_length-le t h) (types-nil limit)

pub nth-next : (k : ℕ) (t : Number) (rest : Types) → nth_type (suc k) (column t rest) ≡ nth_type k rest
nth-next k t rest = let e : suc k - 1 ≡ k = omega arith in rw (ne_eqb (suc k) 0 (λ z. omega arith), e)

-- VALUES

pub walk-done : (col left : ℕ) → walk col left done ≡ Ends col left
unfolding walk
walk-done col left = refl

module _ (col left : ℕ) (t : Number) (rest : Types) where
  pub walk-reserved : width_of t.value ≡ None → walk col left (column t rest) ≡ Reserved col
  unfolding walk
  walk-reserved e = simp (walk, e)

  pub walk-passes : (w : ℕ) → width_of t.value ≡ Some w → left < w → walk col left (column t rest) ≡ Passes col
  unfolding walk
  walk-passes w e h = simp (walk, e, lt-ltb left w h)

  pub walk-on : (w : ℕ) → width_of t.value ≡ Some w → w ≤ left → walk col left (column t rest) ≡ walk (col + 1) (left - w) rest
  unfolding walk
  walk-on w e h = simp (walk, e, le-ltb left w h)
