-- What the single call answers, by the page that is opened and the cell that is found there.
use Prim.Native.Nat.{ℕ}
use mathlib.Core.Path.{◌≡◌, refl, sym, ap, ◌∙◌}
use mathlib.Core.List.{List}
use Rattle.reading.specs.declared.Reading.TheVariants as re
use Rattle.answers.specs.declared.Refusal.{Refusal}
use Rattle.place.specs.declared.Page.{Page}
use Rattle.place.specs.Place.{old_page, file_page}
use Rattle.page.specs.declared.Open.{Open}
use Rattle.columns.specs.Columns.{slot_of}
use Rattle.cells.specs.Located.{Located}
use Rattle.cells.specs.Located as cells
use Rattle.cells.proofs.Laws.{located-open, located-unopened, located-page}
use Rattle.row.specs.Found.{found_by, cursor_in}
use Rattle.row.specs.Column.{slot_then, column_by}
use Rattle.row.proofs.Placed.{placed, column-along}
use Rattle.row_values.specs.Old as old
use Rattle.row_values.specs.File as file
use Rattle.row_values.proofs.Told.{old-shown-located, file-shown-located}
use Rattle.guarded.specs.Guarded as guarded
use Rattle.guarded.proofs.Guard.{guarded-open, guarded-unopened}
use Rattle.guarded.proofs.Along.{file-located}
use Rattle.guarded.proofs.Calls.{guarded-shown-located}
use Rattle.turns.specs.Shown.{old_shown, file_shown}
use Rattle.chosen.specs.declared.Chosen.{Chosen}
use Rattle.chosen.specs.declared.Chosen.TheVariants.{Old, File, Guarded}
use Rattle.chosen.specs.Chosen.{shown_of, reading_of, is_guarded, open_of, located_in, refused_shown, slot_shown, found_shown}
use Rattle.columns.specs.declared.Slot.{Slot}
use Rattle.std.specs.Prelude.{Err, None, Ok, Option, Result, Some}

-- BY A COLUMN

old-slot : (page : Page) (db : List ℕ) (s : Option Slot) → old_shown (old.shown_by db (slot_then page s)) ≡ slot_shown re.Old page.number db s
old-slot page db None = refl
old-slot page db (Some slot) = refl

file-slot : (page : Page) (db : List ℕ) (s : Option Slot) → file_shown (file.shown_by db (slot_then page s)) ≡ slot_shown re.File page.number db s
file-slot page db None = refl
file-slot page db (Some slot) = refl

-- BY A CELL

-- of a cell of that page that is located, as the cursor comes to its columns
module _ (number i : ℕ) (db : List ℕ) (k : ℕ) {l : Located} where
  old-cell : cells.located_of (old_page number) i db ≡ Ok l → old_shown (old.shown_by db (column_by k (Ok l))) ≡ found_shown re.Old number db (found_by (Ok l)) k
  old-cell e =
      ap (λ c. old_shown (old.shown_by db c)) (sym (column-along k l db (placed (old_page number) i db e)))
      ∙ old-slot l.opened.page db (slot_of k (cursor_in l) db)
      ∙ ap (λ (p : Page). slot_shown re.Old p.number db (slot_of k (cursor_in l) db)) (located-page (old_page number) i db e)

  file-cell : cells.located_of (file_page number) i db ≡ Ok l → file_shown (file.shown_by db (column_by k (Ok l))) ≡ found_shown re.File number db (found_by (Ok l)) k
  file-cell e =
      ap (λ c. file_shown (file.shown_by db c)) (sym (column-along k l db (placed (file_page number) i db e)))
      ∙ file-slot l.opened.page db (slot_of k (cursor_in l) db)
      ∙ ap (λ (p : Page). slot_shown re.File p.number db (slot_of k (cursor_in l) db)) (located-page (file_page number) i db e)

module _ (number i : ℕ) (db : List ℕ) (k : ℕ) where
  by_old : (x : Result Located Refusal) → cells.located_of (old_page number) i db ≡ x → shown_of Old number i k db ≡ found_shown re.Old number db (found_by x) k
  unfolding shown_of
  by_old (Err refusal) e = ap old_shown (old-shown-located number i k db e)
  by_old (Ok l) e = ap old_shown (old-shown-located number i k db e) ∙ old-cell number i db k e

  by-file : (x : Result Located Refusal) → cells.located_of (file_page number) i db ≡ x → shown_of File number i k db ≡ found_shown re.File number db (found_by x) k
  unfolding shown_of
  by-file (Err refusal) e = ap file_shown (file-shown-located number i k db e)
  by-file (Ok l) e = ap file_shown (file-shown-located number i k db e) ∙ file-cell number i db k e

  by-guarded : (x : Result Located Refusal) → guarded.located_of number i db ≡ x → shown_of Guarded number i k db ≡ found_shown re.File number db (found_by x) k
  unfolding shown_of
  by-guarded (Err refusal) e = ap file_shown (guarded-shown-located number i k db e)
  by-guarded (Ok l) e = ap file_shown (guarded-shown-located number i k db e) ∙ file-cell number i db k (file-located number i db e)

-- BY A PAGE

module _ (number : ℕ) (db : List ℕ) where
  -- on a page that is refused nothing is shown
  pub shown-unopened : (chosen : Chosen) {refusal : Refusal} → open_of chosen number db ≡ Err refusal → (i k : ℕ)
      → shown_of chosen number i k db ≡ refused_shown refusal
  shown-unopened Old {refusal} e i k = by_old number i db k (Err refusal) (located-unopened (old_page number) i db e)
  shown-unopened File {refusal} e i k = by-file number i db k (Err refusal) (located-unopened (file_page number) i db e)
  shown-unopened Guarded {refusal} e i k = by-guarded number i db k (Err refusal) (guarded-unopened number i db e)

  -- and on one that is opened, what is found there
  pub shown-opened : (chosen : Chosen) {o : Open} → open_of chosen number db ≡ Ok o → (i k : ℕ)
      → shown_of chosen number i k db ≡ found_shown (reading_of chosen) number db (found_by (located_in (is_guarded chosen) o i db)) k
  shown-opened Old {o} e i k = by_old number i db k (cells.located_in o i db) (located-open (old_page number) i db e)
  shown-opened File {o} e i k = by-file number i db k (cells.located_in o i db) (located-open (file_page number) i db e)
  shown-opened Guarded {o} e i k = by-guarded number i db k (guarded.located_in o i db) (guarded-open number i db e)
