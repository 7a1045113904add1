-- Types of one byte each, as the short way goes along them; and types that have no mark.
use Prim.Native.Nat.{ℕ, ◌+◌, ◌-◌, ◌≤◌, ◌<◌}
use mathlib.Core.Path.{◌≡◌, refl, sym, ap, ◌∙◌}
use mathlib.Core.Logic.{◌⊎◌, inl, inr}
use mathlib.Core.List.{List}
use mathlib.Core.Bool.{Bool, true, false}
use native.Mathlib.Nat.{add-zero}
use native.Mathlib.Omega.{arith}
use lib.ListN.{length, drop, get_or, length-drop}
use lib.Seq.{get_or-drop}
use borrow.Author.Tests.{ne_eqb}
use Rattle.laws.specs.Pick.{pick}
use Rattle.varint.specs.Varint.{number}
use Rattle.varint.proofs.Laws.{one_byte}
use Rattle.record.specs.Types.{Types, done, column, types_of, walk}
use Rattle.record.proofs.Laws.{types-at, types-end, walk-done, walk-on}
use Rattle.marks.specs.Marks.{some, empty_value, lowest}
use Rattle.marks.proofs.Same.{clear, clear-again}
use Rattle.layout.specs.Lying.{Usual, Clean, LyingAs}
use Rattle.layout.specs.Lying.{laid_out}
use Rattle.std.specs.Prelude.{None}

-- NO MARK

pub clean-done : Clean done
clean-done = record { long = refl; one = refl; empty = refl }

pub clean-on : (serial w : ℕ) (rest : Types) → Usual serial 9 14 w → Clean rest → Clean (column (number serial 1) rest)
clean-on serial w rest u c = record { long = c.long; one = rw (ne_eqb serial 9 u.other) c.one; empty = empties u.sort }
  where
    empties : (serial < 10) ⊎ (14 ≤ serial) → some empty_value (column (number serial 1) rest) ≡ false
    empties (inl h) = rw (ne_eqb serial 12 (λ z. omega arith), ne_eqb serial 13 (λ z. omega arith)) c.empty
    empties (inr h) = rw (ne_eqb serial 12 (λ z. omega arith), ne_eqb serial 13 (λ z. omega arith)) c.empty

-- where none is found
pub clean-clear : (ts : Types) → lowest 1 1 1 ts ≡ None → Clean ts
clean-clear ts e = let u = clear e in record { long = u.types; one = u.ones; empty = u.empties }

-- and the record then has none, where its other numbers are short
pub clear-clean : (np nv : ℕ) (ts : Types) → np ≤ 5 → nv ≤ 5 → Clean ts → lowest np nv 1 ts ≡ None
clear-clean np nv ts h l c =
    clear-again (record { size = h; row = l; header = omega arith; narrow = refl; types = c.long; ones = c.one; empties = c.empty })

-- ONE TYPE MORE, at a place of the bytes

module _ (k : ℕ) (t : List ℕ) (at : ℕ) (h : 1 ≤ k) (l : at < length t) where
  pub type_at : get_or t at 0 < 128 → types_of k (drop at t) ≡ column (number (get_or t at 0) 1) (types_of k (drop (at + 1) t))
  type_at b =
      let e = one_byte (drop at t) k h (rw length-drop (omega arith)) (rw (get_or-drop at t 0 0, add-zero) b) in
      types-at k t at (rw (get_or-drop at t 0 0, add-zero) at e)

-- the two bounds of usual types
pub barred-low : (g : Bool) → pick g 9 10 ≤ 10
barred-low true = omega arith
barred-low false = omega arith

pub least-high : (g : Bool) → 12 ≤ pick g 14 12
least-high true = omega arith
least-high false = omega arith

-- the types up to `at` are gone along, of one byte each, and leave so many of the bytes for the values of the rest
abbrev pub Gone : Bool → ℕ → List ℕ → ℕ → ℕ → Type 0
Gone g room t at left =
    (k : ℕ) → 1 ≤ k
    → (walk at left (types_of k (drop at t)) ≡ walk 0 room (types_of k t)) × (g ≡ true → Clean (types_of k (drop at t)) → Clean (types_of k t))

module _ (g : Bool) (room : ℕ) (t : List ℕ) where
  pub gone-first : Gone g room t 0 room
  gone-first k h = (refl, λ e c. c)

  module _ (at left : ℕ) where
    pub gone-on : (w : ℕ) → at < length t → Usual (get_or t at 0) (pick g 9 10) (pick g 14 12) w → w ≤ left → Gone g room t at left
        → Gone g room t (at + 1) (left - w)
    gone-on w l u m gone k h =
        let e = type_at k t at h l u.byte in
        let now = gone k h in (
          sym (ap (walk at left) e ∙ walk-on at left (number (get_or t at 0) 1) _ w u.has m) ∙ now.0,
          λ i c. now.1 i (rw e (clean-on (get_or t at 0) w _ (rw i at u) c)),
        )

    pub gone-all : length t ≤ at → Gone g room t at left → LyingAs g room t (laid_out at left)
    gone-all m gone k h =
        let e = types-end k t at m in
        let now = gone k h in
        (sym now.0 ∙ rw e (walk-done at left), λ i. now.1 i (rw e clean-done))
