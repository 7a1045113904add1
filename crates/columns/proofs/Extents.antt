-- Where columns are found: one behind the other with no gap, none past the end, and in a record that fits as many as types,
-- wherever it ends.
use Prim.Native.Nat.{ℕ, zero, suc, ◌+◌, ◌-◌, ◌≤◌, ◌<◌}
use mathlib.Core.Path.{◌≡◌, refl, sym, subst, ◌∙◌}
use mathlib.Core.Bool.{Bool, true, false}
use native.Mathlib.Omega.{arith}
use lib.Dec.{ltb, eqb}
use borrow.Author.Tests.{ltb-false, le-ltb, ne_eqb}
use Rattle.laws.proofs.Never.{never}
use Rattle.varint.specs.declared.Number.{Number}
use Rattle.serial.specs.Serial.{width_of}
use Rattle.record.specs.Types.{Types, done, broken, column, count, nth_type, walk}
use Rattle.record.proofs.Laws.{nth-next}
use Rattle.columns.proofs.Parts.{slot-parts}
use Rattle.record.proofs.Room.{Past, passed}
use Rattle.columns.specs.Columns.{slot_in}
use Rattle.columns.specs.Columns.{slot_at}
use Rattle.columns.specs.declared.Slot.{Slot}
use Rattle.std.specs.Prelude.{None, Option, Some}

-- a value lies between two places
pub record Within (from end t at : ℕ) : Type 0 where
  pub w : ℕ
  pub width : width_of t ≡ Some w
  pub after : from ≤ at
  pub before : at + w ≤ end

-- the first column of some types is there: what it takes, and what follows
pub record First (k value end : ℕ) (t : Number) (rest : Types) (slot : Option Slot) : Type 0 where
  pub w : ℕ
  pub width : width_of t.value ≡ Some w
  pub room : w ≤ end - value
  pub on : elim (eqb k 0) [ true ↦ slot_at t.value value | false ↦ slot_in (k - 1) (value + w) end rest ] ≡ slot

first : (k value end : ℕ) (t : Number) (rest : Types) {x at : ℕ} → slot_in k value end (column t rest) ≡ slot_at x at → First k value end t rest (slot_at x at)
unfolding slot_in
first k value end t rest {x} {at} e = by_width (width_of t.value) refl e
  where
    by-room : (w : ℕ) → width_of t.value ≡ Some w → (b : Bool) → ltb (end - value) w ≡ b
        → elim b [ true ↦ None | false ↦ elim (eqb k 0) [ true ↦ slot_at t.value value | false ↦ slot_in (k - 1) (value + w) end rest ] ] ≡ slot_at x at
        → First k value end t rest (slot_at x at)
    by-room w f true g d = never cc
    by-room w f false g d = record { w = w; width = f; room = ltb-false (end - value) w g; on = d }

    by_width : (y : Option ℕ) → width_of t.value ≡ y
        → elim y [ Some w ↦ elim (ltb (end - value) w) [ true ↦ None | false ↦ elim (eqb k 0) [ true ↦ slot_at t.value value | false ↦ slot_in (k - 1) (value + w) end rest ] ] | None ↦ None ]
        ≡ slot_at x at
        → First k value end t rest (slot_at x at)
    by_width None f d = never cc
    by_width (Some w) f d = by-room w f (ltb (end - value) w) refl d

-- what the first column is followed by, in the same words
next : (k value end : ℕ) (t : Number) (w : ℕ) (rest : Types) → width_of t.value ≡ Some w → w ≤ end - value
    → slot_in (suc k) value end (column t rest) ≡ slot_in k (value + w) end rest
unfolding slot_in
next k value end t w rest f g =
    let i : suc k - 1 ≡ k = omega arith in
    simp (slot_in, f, le-ltb (end - value) w g, ne_eqb (suc k) 0 (omega arith), i)

here : (value end : ℕ) (t : Number) (w : ℕ) (rest : Types) → width_of t.value ≡ Some w → w ≤ end - value → slot_in 0 value end (column t rest) ≡ slot_at t.value value
unfolding slot_in
here value end t w rest f g = simp (slot_in, f, le-ltb (end - value) w g)

-- NO GAP, AND NOT PAST THE END

pub found_first : (value end : ℕ) (ts : Types) {t at : ℕ} → slot_in 0 value end ts ≡ slot_at t at → at ≡ value
unfolding slot_in
found_first value end done e = never cc
found_first value end broken e = never cc
found_first value end (column x rest) {t} {at} e =
    let f = first 0 value end x rest e in
    sym (slot-parts (sym (here value end x f.w rest f.width f.room) ∙ e)).1

pub found_within : (k value end : ℕ) (ts : Types) {t at : ℕ} → value ≤ end → slot_in k value end ts ≡ slot_at t at → Within value end t at
unfolding slot_in
found_within k value end done l e = never cc
found_within k value end broken l e = never cc
found_within zero value end (column x rest) {t} {at} l e =
    let f = first 0 value end x rest e in
    let g = slot-parts (sym (here value end x f.w rest f.width f.room) ∙ e) in
    let j = g.1 in
    let r = f.room in
    record { w = f.w; width = subst (λ (y : ℕ). width_of y ≡ Some f.w) g.0 f.width; after = omega arith; before = omega arith }
found_within (suc k) value end (column x rest) {t} {at} l e =
    let f = first (suc k) value end x rest e in
    let r = f.room in
    let i = found_within k (value + f.w) end rest (omega arith) (sym (next k value end x f.w rest f.width r) ∙ e) in
    record { w = i.w; width = i.width; after = let a = i.after in omega arith; before = i.before }

pub found-next : (k value end : ℕ) (ts : Types) {t at w x on : ℕ} → slot_in k value end ts ≡ slot_at t at → width_of t ≡ Some w
    → slot_in (suc k) value end ts ≡ slot_at x on → on ≡ at + w
unfolding slot_in
found-next k value end done e f g = never cc
found-next k value end broken e f g = never cc
found-next zero value end (column y rest) {t} {at} {w} e f g =
    let i = first 0 value end y rest e in
    let j = slot-parts (sym (here value end y i.w rest i.width i.room) ∙ e) in
    let a = j.0 in
    let b = j.1 in
    let q = i.width in
    let c : Some i.w ≡ Some w = sym q ∙ rw a f in
    let d : i.w ≡ w = cc in
    let h = found_first (value + i.w) end rest (sym (next 0 value end y i.w rest q i.room) ∙ g) in
    omega arith
found-next (suc k) value end (column y rest) e f g =
    let i = first (suc k) value end y rest e in
    found-next k (value + i.w) end rest
    (sym (next k value end y i.w rest i.width i.room) ∙ e) f
    (sym (next (suc k) value end y i.w rest i.width i.room) ∙ g)

-- AS MANY AS TYPES

pub found_below : (k value end : ℕ) (ts : Types) {t at : ℕ} → slot_in k value end ts ≡ slot_at t at → k < count ts
unfolding slot_in
found_below k value end done e = never cc
found_below k value end broken e = never cc
found_below zero value end (column x rest) e = omega arith
found_below (suc k) value end (column x rest) e =
    let f = first (suc k) value end x rest e in
    let i = found_below k (value + f.w) end rest (sym (next k value end x f.w rest f.width f.room) ∙ e) in
    omega arith

-- a column that is found
pub record There (slot : Option Slot) : Type 0 where
  pub t : ℕ
  pub at : ℕ
  pub is : slot ≡ slot_at t at

pub past-found : (k col value end : ℕ) (ts : Types) → Past (walk col (end - value) ts) → k < count ts → There (slot_in k value end ts)
past-found k col value end done p l = absurd (omega arith)
past-found k col value end broken p l = absurd (omega arith)
past-found zero col value end (column x rest) p l =
    let f = passed Past (λ c d. d) (λ c d. d) col (end - value) x rest p in
    record { t = x.value; at = value; is = here value end x f.width rest f.has f.room }
past-found (suc k) col value end (column x rest) p l =
    let f = passed Past (λ c d. d) (λ c d. d) col (end - value) x rest p in
    let d : end - value - f.width ≡ end - (value + f.width) = omega arith in
    let i = past-found k (col + 1) (value + f.width) end rest (rw d at f.on) (omega arith) in
    record { t = i.t; at = i.at; is = next k value end x f.width rest f.has f.room ∙ i.is }

-- and none behind the last
pub found_none : (k value end : ℕ) (ts : Types) → count ts ≤ k → slot_in k value end ts ≡ None
found_none k value end ts l = go (slot_in k value end ts) refl
  where
    go : (s : Option Slot) → slot_in k value end ts ≡ s → s ≡ None
    go None e = refl
    go (Some slot) e = let b = found_below k value end ts e in absurd (omega arith)

-- WHICH, AND WHEREVER THE VALUES END

pub found_type : (k value end : ℕ) (ts : Types) {t at : ℕ} → slot_in k value end ts ≡ slot_at t at → nth_type k ts ≡ t
unfolding slot_in
found_type k value end done e = never cc
found_type k value end broken e = never cc
found_type zero value end (column x rest) {t} {at} e =
    let f = first 0 value end x rest e in
    (slot-parts (sym (here value end x f.w rest f.width f.room) ∙ e)).0
found_type (suc k) value end (column x rest) e =
    let f = first (suc k) value end x rest e in
    nth-next k x rest ∙ found_type k (value + f.w) end rest (sym (next k value end x f.w rest f.width f.room) ∙ e)

pub past_same : (k col value end end' : ℕ) (ts : Types) → Past (walk col (end - value) ts) → Past (walk col (end' - value) ts)
    → slot_in k value end ts ≡ slot_in k value end' ts
unfolding slot_in
past_same k col value end end' done p q = refl
past_same k col value end end' broken p q = refl
past_same zero col value end end' (column x rest) p q =
    let f = passed Past (λ c d. d) (λ c d. d) col (end - value) x rest p in
    let g = passed Past (λ c d. d) (λ c d. d) col (end' - value) x rest q in
    here value end x f.width rest f.has f.room ∙ sym (here value end' x g.width rest g.has g.room)
past_same (suc k) col value end end' (column x rest) p q =
    let f = passed Past (λ c d. d) (λ c d. d) col (end - value) x rest p in
    let g = passed Past (λ c d. d) (λ c d. d) col (end' - value) x rest q in
    let both : Some g.width ≡ Some f.width = sym g.has ∙ f.has in
    let w : g.width ≡ f.width = cc in
    let d : end - value - f.width ≡ end - (value + f.width) = omega arith in
    let d' : end' - value - g.width ≡ end' - (value + f.width) = omega arith in
    next k value end x f.width rest f.has f.room
    ∙ past_same k (col + 1) (value + f.width) end end' rest (rw d at f.on) (rw d' at g.on)
    ∙ sym (next k value end' x f.width rest f.has (rw w at g.room))
