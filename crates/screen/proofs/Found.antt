-- A row that is found: it was checked, so that its columns are all there, and it is answered as the page is.
use Prim.Native.Nat.{ℕ}
use mathlib.Core.Path.{◌≡◌, sym, ap, subst, ◌∙◌}
use mathlib.Core.List.{List}
use mathlib.Core.Bool.{Bool, true, false}
use Rattle.reading.specs.declared.Reading.{Reading}
use Rattle.answers.specs.declared.Refusal.{Refusal}
use Rattle.page.specs.declared.Open.{Open}
use Rattle.cells.specs.Located as cells
use Rattle.row.specs.declared.FoundCell.{FoundCell}
use Rattle.row.specs.Found.{found_by}
use Rattle.row.proofs.Told.{told}
use Rattle.guarded.specs.Guarded as guarded
use Rattle.guarded.proofs.Guard.{guarded-in}
use Rattle.checked.specs.Whole.{Whole}
use Rattle.checked.proofs.Found.{in_place}
use Rattle.turns.specs.declared.types.Shown.{Shown}
use Rattle.chosen.specs.declared.Chosen.{Chosen}
use Rattle.chosen.specs.Chosen.{shown_of, reading_of, is_guarded, open_of, located_in, refused_shown, found_shown}
use Rattle.chosen.proofs.Laws.{shown-unopened, shown-opened}
use Rattle.addresses.specs.Screen.{Address, address}
use Rattle.addresses.specs.Turns.{CellAnswers, PageAnswers, Single, named_page, named_cell}
use Rattle.std.specs.Prelude.{Err, Ok, Result}

pub found-checked : (g : Bool) (o : Open) (i : ℕ) (db : List ℕ) {f : FoundCell} → found_by (located_in g o i db) ≡ Ok f
    → Whole f.cursor f.cell.columns db
found-checked true o i db e =
    let t = told (guarded.located_in o i db) e in
    subst (λ (f : FoundCell). Whole f.cursor f.cell.columns db) t.same (in_place o i db (guarded-in o i db t.is).located)
found-checked false o i db e =
    let t = told (cells.located_in o i db) e in
    subst (λ (f : FoundCell). Whole f.cursor f.cell.columns db) t.same (in_place o i db t.is)

module _ (r : Reading) (g : Bool) (o : Open) (db addresses : List ℕ) where
  -- what a cell is answered, by what was found of it
  abbrev pub cell_shown : ℕ → ℕ → ℕ → Shown
  cell_shown i j k = found_shown r (named_page i addresses) db (found_by (located_in g o j db)) k

  -- what was found is known by another name
  pub cell-asked : (i : ℕ) {cell : ℕ} {x : Result FoundCell Refusal} → cell ≡ named_cell i addresses → found_by (located_in g o cell db) ≡ x → (f : Address → Shown)
      → CellAnswers (named_page i addresses) (named_cell i addresses) (cell_shown i (named_cell i addresses)) f
      → CellAnswers (named_page i addresses) (named_cell i addresses) (found_shown r (named_page i addresses) db x) f
  cell-asked i q e f must k =
      must k
      ∙ ap (λ (j : ℕ). cell_shown i j k) (sym q)
      ∙ ap (λ (z : Result FoundCell Refusal). found_shown r (named_page i addresses) db z k) e

  -- what the cells of a page are answered is what one of them is
  pub page-asked : (at i : ℕ) → named_page i addresses ≡ named_page at addresses → (f : Address → Shown)
      → PageAnswers (named_page at addresses) (cell_shown at) f
      → CellAnswers (named_page i addresses) (named_cell i addresses) (cell_shown i (named_cell i addresses)) f
  page-asked at i p f must k =
      ap (λ (n : ℕ). f (address n (named_cell i addresses) k)) p
      ∙ must (named_cell i addresses) k
      ∙ ap (λ (n : ℕ). found_shown r n db (found_by (located_in g o (named_cell i addresses) db)) k) (sym p)

-- BY THE PAGE: what the single call answers, where the page is refused and where it is opened

module _ (chosen : Chosen) (db : List ℕ) {page number : ℕ} (p : page ≡ number) where
  pub refused-asked : {refusal : Refusal} → open_of chosen page db ≡ Err refusal → {cell : ℕ} → (f : Address → Shown) → Single chosen db f
      → CellAnswers number cell (λ k. refused_shown refusal) f
  refused-asked e {cell} f single k =
      single (address number cell k)
      ∙ ap (λ (n : ℕ). shown_of chosen n cell k db) (sym p)
      ∙ shown-unopened page db chosen e cell k

  pub opened-asked : {o : Open} {r : Reading} {g : Bool} → open_of chosen page db ≡ Ok o → r ≡ reading_of chosen → g ≡ is_guarded chosen
      → (f : Address → Shown) → Single chosen db f → PageAnswers number (λ i. found_shown r number db (found_by (located_in g o i db))) f
  opened-asked {o} {r} {g} e d b f single i k =
      single (address number i k)
      ∙ ap (λ (n : ℕ). shown_of chosen n i k db) (sym p)
      ∙ shown-opened page db chosen e i k
      ∙ ap (λ (n : ℕ). found_shown (reading_of chosen) n db (found_by (located_in (is_guarded chosen) o i db)) k) p
      ∙ ap (λ (x : Reading). found_shown x number db (found_by (located_in (is_guarded chosen) o i db)) k) (sym d)
      ∙ ap (λ (y : Bool). found_shown r number db (found_by (located_in y o i db)) k) (sym b)
