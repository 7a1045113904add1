-- The cursor behind some columns comes to the column there, and behind one more.
use Prim.Native.Nat.{ℕ, zero, suc, ◌+◌}
use mathlib.Core.Path.{◌≡◌, refl, sym, ap, ◌∙◌}
use mathlib.Core.List.{List}
use native.Mathlib.Numerals.{add-one}
use Rattle.laws.proofs.Never.{never}
use Rattle.columns.specs.declared.Cursor.{Cursor}
use Rattle.columns.specs.Columns.{slot_of, step_of}
use Rattle.columns.specs.Along.{along, slot_by}
use Rattle.columns.proofs.Along.{along-first, along-done, along-next, along-slot}
use Rattle.checked.specs.Past.{past_of}
use Rattle.columns.specs.Columns.{step_over}
use Rattle.columns.specs.declared.Step.{Step}
use Rattle.std.specs.Prelude.{None, Option, Some}

pub past-none : (c : Cursor) (db : List ℕ) → past_of 0 c db ≡ c
unfolding past_of
past-none c db = refl

past-on : (k : ℕ) (c : Cursor) (db : List ℕ) {t at : ℕ} {next : Cursor} → step_of c db ≡ step_over t at next → past_of (suc k) c db ≡ past_of k next db
unfolding past_of
past-on k c db e = rw e

past-done : (k : ℕ) (c : Cursor) (db : List ℕ) → step_of c db ≡ None → past_of k c db ≡ c
unfolding past_of
past-done zero c db e = refl
past-done (suc k) c db e = rw e

-- the column there
along-past : (k : ℕ) (c : Cursor) (db : List ℕ) → along k c db ≡ step_of (past_of k c db) db
along-past zero c db = along-first c db ∙ ap (λ (d : Cursor). step_of d db) (sym (past-none c db))
along-past (suc k) c db = go (step_of c db) refl (λ next. along-past k next db)
  where
    go : (x : Option Step) → step_of c db ≡ x → ((next : Cursor) → along k next db ≡ step_of (past_of k next db) db)
        → along (suc k) c db ≡ step_of (past_of (suc k) c db) db
    go None e ih = along-done c db (suc k) e ∙ sym e ∙ ap (λ (d : Cursor). step_of d db) (sym (past-done (suc k) c db e))
    go (Some step) e ih = along-next c db e k ∙ ih step.next ∙ ap (λ (d : Cursor). step_of d db) (sym (past-on k c db e))

pub slot-past : (k : ℕ) (c : Cursor) (db : List ℕ) → slot_of k c db ≡ slot_by (step_of (past_of k c db) db)
slot-past k c db = sym (along-slot k c db) ∙ ap slot_by (along-past k c db)

-- and behind it
pub past_next : (k : ℕ) (c : Cursor) (db : List ℕ) {t at : ℕ} {next : Cursor} → step_of (past_of k c db) db ≡ step_over t at next
    → past_of (k + 1) c db ≡ next
past_next k c db {t} {at} {next} e = rw (add-one k) (more k c e)
  where
    more : (k : ℕ) (c : Cursor) → step_of (past_of k c db) db ≡ step_over t at next → past_of (suc k) c db ≡ next
    more zero c e = past-on 0 c db (ap (λ (d : Cursor). step_of d db) (sym (past-none c db)) ∙ e) ∙ past-none next db
    more (suc k) c e = go (step_of c db) refl (λ d i. more k d i)
      where
        go : (x : Option Step) → step_of c db ≡ x → ((d : Cursor) → step_of (past_of k d db) db ≡ step_over t at next → past_of (suc k) d db ≡ next)
            → past_of (suc (suc k)) c db ≡ next
        go None i ih = let z : None ≡ step_over t at next = sym i ∙ ap (λ (m : Cursor). step_of m db) (sym (past-done (suc k) c db i)) ∙ e in never cc
        go (Some step) i ih = past-on (suc k) c db i ∙ ih step.next (ap (λ (m : Cursor). step_of m db) (sym (past-on k c db i)) ∙ e)
