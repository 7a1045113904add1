-- Column k from a cursor on, however it was come by: the answers along the cursor are those of its slots.
use Prim.Native.Nat.{ℕ, zero, suc}
use mathlib.Core.Path.{◌≡◌, refl, sym, ap, ◌∙◌}
use mathlib.Core.List.{List}
use Rattle.columns.specs.declared.Cursor.{Cursor}
use Rattle.columns.specs.Columns.{slot_of, step_of}
use Rattle.columns.specs.Along.{along, slot_by}
use Rattle.columns.proofs.Along.{along-first, along-done, along-next, along-slot}
use Rattle.place.specs.declared.Page.{Page}
use Rattle.row.specs.Column.{slot_then}
use Rattle.row_values.specs.Old as old
use Rattle.row_values.specs.File as file
use Rattle.columns.specs.declared.Step.{Step}
use Rattle.std.specs.Prelude.{None, Option, Some}

-- THE OLD READING

old-along : (k : ℕ) (c : Cursor) (db : List ℕ) → old.along k c db ≡ old.next_by db (along k c db)
unfolding old.along old.next_of
old-along zero c db = ap (old.next_by db) (sym (along-first c db))
old-along (suc k) c db = go (step_of c db) refl (λ next. old-along k next db)
  where
    go : (x : Option Step) → step_of c db ≡ x → ((next : Cursor) → old.along k next db ≡ old.next_by db (along k next db))
        → old.onward (old.next_by db x) (λ next. old.along k next db) ≡ old.next_by db (along (suc k) c db)
    go None e ih = ap (old.next_by db) (sym (along-done c db (suc k) e))
    go (Some step) e ih = ih step.next ∙ ap (old.next_by db) (sym (along-next c db e k))

old_value : (page : Page) (db : List ℕ) (x : Option Step) → old.value_in page (old.next_by db x) ≡ old.shown_by db (slot_then page (slot_by x))
old_value page db None = refl
old_value page db (Some step) = refl

pub old-from : (page : Page) (k : ℕ) (c : Cursor) (db : List ℕ) → old.value_in page (old.along k c db) ≡ old.shown_by db (slot_then page (slot_of k c db))
old-from page k c db = rw (old-along k c db, old_value page db (along k c db), along-slot k c db)

-- THE FILE READING

file-along : (k : ℕ) (c : Cursor) (db : List ℕ) → file.along k c db ≡ file.next_by db (along k c db)
unfolding file.along file.next_of
file-along zero c db = ap (file.next_by db) (sym (along-first c db))
file-along (suc k) c db = go (step_of c db) refl (λ next. file-along k next db)
  where
    go : (x : Option Step) → step_of c db ≡ x → ((next : Cursor) → file.along k next db ≡ file.next_by db (along k next db))
        → file.onward (file.next_by db x) (λ next. file.along k next db) ≡ file.next_by db (along (suc k) c db)
    go None e ih = ap (file.next_by db) (sym (along-done c db (suc k) e))
    go (Some step) e ih = ih step.next ∙ ap (file.next_by db) (sym (along-next c db e k))

file-value : (page : Page) (db : List ℕ) (x : Option Step) → file.value_in page (file.next_by db x) ≡ file.shown_by db (slot_then page (slot_by x))
file-value page db None = refl
file-value page db (Some step) = refl

pub file-from : (page : Page) (k : ℕ) (c : Cursor) (db : List ℕ) → file.value_in page (file.along k c db) ≡ file.shown_by db (slot_then page (slot_of k c db))
file-from page k c db = rw (file-along k c db, file-value page db (along k c db), along-slot k c db)
