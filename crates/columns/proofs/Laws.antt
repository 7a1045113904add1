-- How a cursor goes along the types: what one step comes to, and that column k is found by k steps.
use Prim.Native.Nat.{ℕ, suc, ◌+◌, ◌-◌, ◌≤◌, ◌<◌}
use mathlib.Core.Path.{◌≡◌, refl, sym, ap, ◌∙◌}
use mathlib.Core.List.{List, [], ◌∷◌}
use mathlib.Core.Bool.{Bool, true, false}
use native.Mathlib.Nat.{add-zero}
use native.Mathlib.Omega.{arith}
use lib.Dec.{ltb, eqb}
use lib.ListN.{length, take, drop, get_or, length-take, length-drop}
use lib.Seq.{drop-drop, get_or-take, get_or-drop}
use borrow.Author.Tests.{ne_eqb}
use Rattle.laws.specs.Pick.{pick}
use Rattle.laws.proofs.Never.{never}
use Rattle.laws.proofs.Parts.{drop-take}
use Rattle.varint.specs.declared.Cause.{Cause}
use Rattle.varint.specs.declared.Number.{Number}
use Rattle.varint.specs.Varint.{number, varint_of}
use Rattle.varint.proofs.Laws.{one_byte, length-bounds}
use Rattle.reading.specs.Reading.{limit}
use Rattle.reading.proofs.Laws.{takes-five}
use Rattle.serial.specs.Serial.{width_of}
use Rattle.record.specs.Types.{Types, done, broken, column, types_of, count}
use Rattle.record.proofs.Laws.{types-nil, types-next, types-broken}
use Rattle.columns.specs.declared.Cursor.{Cursor}
use Rattle.columns.specs.Columns.{types_at, end_in, slot_in, slot_of, behind, passed, step_in, step_of}
use Rattle.columns.proofs.Extents.{found_none}
use Rattle.columns.specs.Columns.{slot_at, step_over}
use Rattle.columns.specs.declared.Slot.{Slot}
use Rattle.std.specs.Prelude.{Err, None, Ok, Option, Result, Some}
use Rattle.columns.specs.declared.Step.{Step}
use Rattle.columns.proofs.Parts.{step-parts}

module _ (c : Cursor) (db : List ℕ) where
  -- the bytes of the types before the cursor
  abbrev pub ahead : List ℕ
  ahead = take (c.stop - c.at) (drop c.at db)

  -- ONE STEP, by what is read there

  pub step-ends : {cause : Cause} → varint_of (limit c.reading) ahead ≡ Err cause → step_of c db ≡ None
  unfolding step_of step_in
  step-ends {cause} e = go ahead e
    where
      go : (s : List ℕ) → varint_of (limit c.reading) s ≡ Err cause → step_in (end_in c db) c (types_of (limit c.reading) s) ≡ None
      go [] d = rw (types-nil (limit c.reading))
      go (b ∷ s) d = rw (types-broken (limit c.reading) (b ∷ s) (omega arith) d)

  module _ {t : Number} (e : varint_of (limit c.reading) ahead ≡ Ok t) where
    pub types-behind : (w : ℕ) → types_at c db ≡ column t (types_at (behind t.length w c) db)
    types-behind w =
        let d : c.stop - c.at - t.length ≡ c.stop - (c.at + t.length) = omega arith in
        rw (drop-take, d, drop-drop) at (types-next (limit c.reading) ahead e)

    -- there is a byte of it
    pub type-within : (c.at < c.stop) × (c.at < length db)
    type-within = let b = simp (length-take, length-drop) at (length-bounds ahead (limit c.reading) e) in omega arith

    first_byte : get_or ahead 0 0 ≡ get_or db c.at 0
    first_byte =
        let w = type-within in
        let l : 0 < c.stop - c.at = omega arith in
        rw (get_or-take, get_or-drop, add-zero)

    -- a byte below 128 is the type
    pub type-byte : get_or db c.at 0 < 128 → t ≡ number (get_or db c.at 0) 1
    type-byte h =
        let b = length-bounds ahead (limit c.reading) e in
        let l = one_byte ahead (limit c.reading) (omega (arith, takes-five c.reading)) (omega arith) (rw first_byte h) in
        let v = sym (rw first_byte at l) ∙ e in
        cc

    pub step-reserved : width_of t.value ≡ None → step_of c db ≡ None
    unfolding step_of step_in
    step-reserved f = ap (step_in (end_in c db) c) (types-behind 0) ∙ simp (step_in, f)

    pub step-passes : {w : ℕ} → width_of t.value ≡ Some w → step_of c db ≡ passed (end_in c db) c t w
    unfolding step_of step_in
    step-passes f = ap (step_in (end_in c db) c) (types-behind 0) ∙ simp (step_in, f)

  -- no column where none is counted
  pub step-none : count (types_at c db) ≡ 0 → step_of c db ≡ None
  unfolding step_of step_in
  step-none e = go (types_at c db) e
    where
      go : (ts : Types) → count ts ≡ 0 → step_in (end_in c db) c ts ≡ None
      go done d = refl
      go broken d = refl
      go (column t rest) d = absurd (omega arith)

  -- COLUMN k, by its steps

  -- behind the first type are the rest of them
  rest-is : {t : Number} {rest : Types} → types_at c db ≡ column t rest → (w : ℕ) → types_at (behind t.length w c) db ≡ rest
  rest-is {t} {rest} e w = go (varint_of (limit c.reading) ahead) refl
    where
      ends : (s : List ℕ) {cause : Cause} → varint_of (limit c.reading) s ≡ Err cause → types_of (limit c.reading) s ≡ column t rest → ⊥
      ends [] d f = let g = sym (types-nil (limit c.reading)) ∙ f in never cc
      ends (b ∷ s) d f = let g = sym (types-broken (limit c.reading) (b ∷ s) (omega arith) d) ∙ f in never cc

      go : (v : Result Number Cause) → varint_of (limit c.reading) ahead ≡ v → types_at (behind t.length w c) db ≡ rest
      go (Err cause) d = absurd (ends ahead d e)
      go (Ok x) d =
          let g = sym (types-behind d w) ∙ e in
          let i : x ≡ t = cc in
          rw i at (let j : types_at (behind x.length w c) db ≡ rest = cc in j)

  -- a step that comes to a column
  pub record Passed (ts : Types) (t at : ℕ) (next : Cursor) : Type 0 where
    pub n : ℕ
    pub w : ℕ
    pub rest : Types
    pub types : ts ≡ column (number t n) rest
    pub width : width_of t ≡ Some w
    pub room : ltb (end_in c db - c.value) w ≡ false
    pub here : c.value ≡ at
    pub on : behind n w c ≡ next

  passed_is : (ts : Types) {t at : ℕ} {next : Cursor} → step_in (end_in c db) c ts ≡ step_over t at next → Passed ts t at next
  unfolding step_in
  passed_is done e = never cc
  passed_is broken e = never cc
  passed_is (column x rest) {t} {at} {next} e = by_width (width_of x.value) refl e
    where
      by-room : (w : ℕ) → width_of x.value ≡ Some w → (b : Bool) → ltb (end_in c db - c.value) w ≡ b
          → pick b None (step_over x.value c.value (behind x.length w c)) ≡ step_over t at next → Passed (column x rest) t at next
      by-room w f true g d = never cc
      by-room w f false g d =
          let i = step-parts d in
          record { n = x.length; w = w; rest = rest; types = rw (← i.0); width = rw i.0 at f; room = g; here = i.1; on = i.2 }

      by_width : (y : Option ℕ) → width_of x.value ≡ y → elim y [ Some w ↦ passed (end_in c db) c x w | None ↦ None ] ≡ step_over t at next
          → Passed (column x rest) t at next
      by_width None f d = never cc
      by_width (Some w) f d = by-room w f (ltb (end_in c db - c.value) w) refl d

  -- where the values end in the bytes
  pub slot-within : c.end ≤ length db → (k : ℕ) → slot_of k c db ≡ slot_in k c.value c.end (types_at c db)
  unfolding slot_of
  slot-within l k = let e : end_in c db ≡ c.end = omega arith in rw e

  -- none is behind as many as there are types
  pub slot-none : (k : ℕ) → count (types_at c db) ≤ k → slot_of k c db ≡ None
  unfolding slot_of
  slot-none k l = found_none k c.value (end_in c db) (types_at c db) l

  pub slot-done : (k : ℕ) → step_of c db ≡ None → slot_of k c db ≡ None
  unfolding step_of step_in slot_of slot_in
  slot-done k e = go (types_at c db) e
    where
      by-room : (w : ℕ) (t : Number) (x : Option Slot) (b : Bool) → pick b None (step_over t.value c.value (behind t.length w c)) ≡ None → ◌≡◌ {A = Option Slot} (elim b [ true ↦ None | false ↦ x ]) None
      by-room w t x true d = refl
      by-room w t x false d = never cc

      by_width : (t : Number) (x : ℕ → Option Slot) (y : Option ℕ) → ◌≡◌ {A = Option Step} (elim y [ Some w ↦ passed (end_in c db) c t w | None ↦ None ]) None
          → ◌≡◌ {A = Option Slot} (elim y [ Some w ↦ elim (ltb (end_in c db - c.value) w) [ true ↦ None | false ↦ x w ] | None ↦ None ]) None
      by_width t x None d = refl
      by_width t x (Some w) d = by-room w t (x w) (ltb (end_in c db - c.value) w) d

      go : (ts : Types) → step_in (end_in c db) c ts ≡ None → slot_in k c.value (end_in c db) ts ≡ None
      go done d = refl
      go broken d = refl
      go (column t rest) d =
          by_width t (λ w. elim (eqb k 0) [ true ↦ slot_at t.value c.value | false ↦ slot_in (k - 1) (c.value + w) (end_in c db) rest ]) (width_of t.value) d

  module _ {t at : ℕ} {next : Cursor} (e : step_of c db ≡ step_over t at next) where
    pub stepped : Passed (types_at c db) t at next
    unfolding step_of
    stepped = passed_is (types_at c db) e

    pub slot-here : slot_of 0 c db ≡ slot_at t at
    unfolding slot_of slot_in
    slot-here =
        let p = stepped in
        ap (slot_in 0 c.value (end_in c db)) p.types ∙ (simp (slot_in, p.width, p.room)) ∙ ap (slot_at t) p.here

    pub slot_next : (k : ℕ) → slot_of (suc k) c db ≡ slot_of k next db
    unfolding slot_of slot_in
    slot_next k =
        let p = stepped in
        let i : suc k - 1 ≡ k = omega arith in
        let g = rest-is p.types p.w in
        let h : slot_in (suc k) c.value (end_in c db) (column (number t p.n) p.rest) ≡ slot_in k (c.value + p.w) (end_in c db) p.rest =
        simp (slot_in, p.width, p.room, ne_eqb (suc k) 0 (omega arith), i) in
        ap (slot_in (suc k) c.value (end_in c db)) p.types ∙ h
        ∙ ap (slot_in k (c.value + p.w) (end_in c db)) (sym g) ∙ ap (λ (x : Cursor). slot_of k x db) p.on
