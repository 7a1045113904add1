-- Going along a cursor comes to each column in turn.
use Prim.Native.Nat.{ℕ, zero, suc}
use mathlib.Core.Path.{◌≡◌, refl, sym, ◌∙◌}
use mathlib.Core.List.{List}
use Rattle.columns.specs.declared.Cursor.{Cursor}
use Rattle.columns.specs.Columns.{slot_of, step_of}
use Rattle.columns.specs.Along.{onward, along, slot_by}
use Rattle.columns.proofs.Laws.{slot-done, slot-here, slot_next}
use Rattle.columns.specs.Columns.{step_over}
use Rattle.columns.specs.declared.Step.{Step}
use Rattle.std.specs.Prelude.{None, Option, Some}

-- STEP BY STEP

module _ (c : Cursor) (db : List ℕ) where
  pub along-first : along 0 c db ≡ step_of c db
  unfolding along
  along-first = refl

  pub along-done : (k : ℕ) → step_of c db ≡ None → along k c db ≡ None
  unfolding along
  along-done zero e = e
  along-done (suc k) e = rw e

  pub along-next : {t at : ℕ} {next : Cursor} → step_of c db ≡ step_over t at next → (k : ℕ) → along (suc k) c db ≡ along k next db
  unfolding along
  along-next e k = rw e

-- AT ONCE

pub along-slot : (k : ℕ) (c : Cursor) (db : List ℕ) → slot_by (along k c db) ≡ slot_of k c db
unfolding along
along-slot zero c db = go (step_of c db) refl
  where
    go : (x : Option Step) → step_of c db ≡ x → slot_by x ≡ slot_of 0 c db
    go None e = sym (slot-done c db 0 e)
    go (Some step) e = sym (slot-here c db e)
along-slot (suc k) c db = go (step_of c db) refl (λ next. along-slot k next db)
  where
    go : (x : Option Step) → step_of c db ≡ x → ((next : Cursor) → slot_by (along k next db) ≡ slot_of k next db)
        → slot_by (onward x (λ next. along k next db)) ≡ slot_of (suc k) c db
    go None e ih = sym (slot-done c db (suc k) e)
    go (Some step) e ih = ih step.next ∙ sym (slot_next c db e k)

-- the first is the one at the cursor
pub slot_first : (c : Cursor) (db : List ℕ) → slot_of 0 c db ≡ slot_by (step_of c db)
unfolding along
slot_first c db = sym (along-slot 0 c db)
