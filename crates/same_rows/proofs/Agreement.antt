-- The theorems: a row with its values in a lent table is what single calls answer.
use Prim.Native.Nat.{ℕ}
use mathlib.Core.Path.{◌≡◌, refl, sym, ap, ◌∙◌}
use mathlib.Core.List.{List}
use mathlib.Core.Bool.{Bool, true, false}
use native.Mathlib.Omega.{arith}
use lib.Dec.{eqb}
use lib.ListN.{length, drop}
use borrow.Author.Tests.{eqb-true}
use Rattle.laws.proofs.Never.{never}
use Rattle.reading.specs.declared.Reading.{Reading}
use Rattle.reading.specs.declared.Reading.TheVariants.{Old as old, File as file}
use Rattle.answers.specs.declared.Refusal.{Refusal}
use Rattle.columns.specs.declared.Cursor.{Cursor}
use Rattle.columns.specs.Columns.{slot_of}
use Rattle.place.specs.declared.Page.{Page}
use Rattle.place.specs.Place.{old_page, file_page}
use Rattle.page.specs.declared.Open.{Open}
use Rattle.page.specs.Open as page
use Rattle.page.proofs.Steps.{open-page, open-file}
use Rattle.cells.specs.Located.{Located, located_in}
use Rattle.cells.proofs.Laws.{held, located-open}
use Rattle.row.specs.Found.{cursor_in, found_by}
use Rattle.row.specs.Column.{slot_then, column_by}
use Rattle.row_values.specs.Old as old-calls
use Rattle.row_values.specs.File as file-calls
use Rattle.row.proofs.Placed.{placed-in, column-along}
use Rattle.row_values.proofs.Told.{old-shown-located, file-shown-located}
use Rattle.guarded.specs.Guarded as guarded
use Rattle.guarded.proofs.Guard.{leaf-opened, guarded-in, guarded-open}
use Rattle.guarded.proofs.Calls.{guarded-shown-located}
use Rattle.usual.specs.Usual as usual
use Rattle.usual.proofs.Rows.{row-found, row-parts}
use Rattle.turns.specs.declared.types.Opened.{Opened}
use Rattle.turns.specs.declared.types.Shown.{Shown}
use Rattle.turns.specs.Refusals.{accepted}
use Rattle.asked.specs.Asked.{reading_by}
use Rattle.pages.specs.Pages.{opening_by, open_by}
use Rattle.turns.specs.declared.types.Cell.{Cell}
use Rattle.turns.specs.Shown.{old_shown, file_shown}
use Rattle.turns.specs.Words.{value_at}
use Rattle.run.specs.Run.{run_from}
use Rattle.exports.specs.Calls.{opening_of, row_in, cell_for}
use Rattle.same_rows.specs.Agreement.{cell_in, shown_of, cell_from, CellsAgree, RowShows, AsManyAsFit}
use Rattle.filled.proofs.Counted.{whole-count}
use Rattle.run.proofs.Places.{words_in, place-holds, over-run}
use Rattle.checked.proofs.Laws.{whole-found}
use Rattle.filled.proofs.Found.{found-whole}
use Rattle.pages.proofs.Back.{Behind, page-behind}
use Rattle.columns.specs.Columns.{slot_at}
use Rattle.columns.specs.declared.Slot.{Slot}
use Rattle.row.specs.Column.{column_at}
use Rattle.std.specs.Prelude.{Err, Ok, Result}
use Rattle.usual.specs.Usual.{row_with}
use Rattle.usual.specs.declared.Row.{Row}

-- SINGLE CALLS, by the cell that their reading locates

-- a column as its reading shows it
abbrev shown_in : Reading → List ℕ → Result Slot Refusal → Shown
shown_in old db answer = old_shown (old-calls.shown_by db answer)
shown_in file db answer = file_shown (file-calls.shown_by db answer)

shown-value : (r : Reading) (db : List ℕ) (t at : ℕ) → shown_in r db (column_at t at) ≡ record { refused = accepted; value = value_at r t at db }
shown-value old db t at = refl
shown-value file db t at = refl

-- what the calls of a reading answer of cell i of a page, and what is found of it where the page was opened
record Located-by (reading number i : ℕ) (db : List ℕ) (o : Opened) : Type 0 where
  x : Result Located Refusal
  row : row_in o i db ≡ usual.row_by (found_by x)
  cell : cell_in reading number i db ≡ cell_for x
  shows : (k : ℕ) → shown_of reading number i k db ≡ shown_in (reading_by o.reading) db (column_by k x)
  lies : (l : Located) → x ≡ Ok l → located_in (open_by o) i db ≡ Ok l

module _ (i : ℕ) (db : List ℕ) (o : Opened) where
  -- a page that is handed back is that of the old or the file reading
  again : (asked : Page) (n : ℕ) → reading_by n ≡ asked.reading
      → opening_by n (page.open_of asked db) ≡ record { refused = accepted; opened = o } → Behind n (page.open_of asked db) o
  again asked n names e = page-behind n (page.open_of asked db) o (λ p d. ap (λ (q : Page). q.reading) (open-page asked db d) ∙ sym names) e

  -- or that of the guarded one
  again-guarded : (number : ℕ) → opening_by 2 (guarded.open_of number db) ≡ record { refused = accepted; opened = o }
      → Behind 2 (guarded.open_of number db) o
  again-guarded number e =
      page-behind 2 (guarded.open_of number db) o (λ p d. open-file number db (leaf-opened number db d).0) e

  -- its cell, and the cell's columns
  row_plain : {n : ℕ} → o.reading ≡ n → eqb n 2 ≡ false → row_in o i db ≡ usual.row_by (found_by (located_in (open_by o) i db))
  row_plain r f = ap (λ (g : Bool). usual.row_in g (open_by o) i db) (ap (λ (m : ℕ). eqb m 2) r ∙ f) ∙ row-found false (open_by o) i db

  row-guarded : o.reading ≡ 2 → row_in o i db ≡ usual.row_by (found_by (guarded.located_in (open_by o) i db))
  row-guarded r = ap (λ (m : ℕ). usual.row_in (eqb m 2) (open_by o) i db) r ∙ row-found true (open_by o) i db

  column-of : (n : ℕ) (r : Reading) (answer : Result Slot Refusal) → o.reading ≡ n → reading_by n ≡ r
      → shown_in r db answer ≡ shown_in (reading_by o.reading) db answer
  column-of n r answer f g = ap (λ (q : Reading). shown_in q db answer) (sym (ap reading_by f ∙ g))

located-by : (reading number i : ℕ) (db : List ℕ) (o : Opened) → opening_of reading number db ≡ record { refused = accepted; opened = o }
    → Located-by reading number i db o
located-by reading number i db o e = go (eqb reading 0) (eqb reading 2) refl refl
  where
    go : (a b : Bool) → eqb reading 0 ≡ a → eqb reading 2 ≡ b → Located-by reading number i db o
    go true true f g = absurd (omega (arith, eqb-true reading 0 f, eqb-true reading 2 g))
    go true false f g =
        let b = again i db o (old_page number) 0 refl (rw (f, g) at e) in
        let s = located-open (old_page number) i db b.is in
        let here = located_in (open_by o) i db in
        record {
          x = here;
          row = row_plain i db o b.reading refl;
          cell = rw f (ap cell_for s);
          shows = λ k. rw f (ap old_shown (old-shown-located number i k db s) ∙ column-of i db o 0 old (column_by k here) b.reading refl);
          lies = λ l d. d;
        }
    go false true f g =
        let b = again-guarded i db o number (rw (eqb-true reading 2 g) at e) in
        let s = guarded-open number i db b.is in
        let here = guarded.located_in (open_by o) i db in
        record {
          x = here;
          row = row-guarded i db o b.reading;
          cell = rw (f, g) (ap cell_for s);
          shows = λ k. rw (f, g) (ap file_shown (guarded-shown-located number i k db s) ∙ column-of i db o 2 file (column_by k here) b.reading refl);
          lies = λ l d. (guarded-in (open_by o) i db d).located;
        }
    go false false f g =
        let b = again i db o (file_page number) 1 refl (rw (f, g) at e) in
        let s = located-open (file_page number) i db b.is in
        let here = located_in (open_by o) i db in
        record {
          x = here;
          row = row_plain i db o b.reading refl;
          cell = rw (f, g) (ap cell_for s);
          shows = λ k. rw (f, g) (ap file_shown (file-shown-located number i k db s) ∙ column-of i db o 1 file (column_by k here) b.reading refl);
          lies = λ l d. d;
        }

-- THE CELL

cell-from : (x : Result Located Refusal) → cell_for x ≡ cell_from (usual.row_by (found_by x)) (cell_for x).shortest
cell-from (Err refusal) = refl
cell-from (Ok l) = refl

pub cells_agree : CellsAgree
cells_agree reading number i db o e =
    let b = located-by reading number i db o e in
    b.cell ∙ cell-from b.x
    ∙ ap (λ (r : Result Row Refusal). cell_from r (cell_for b.x).shortest) (sym b.row)
    ∙ ap (λ (c : Cell). cell_from (row_in o i db) c.shortest) (sym b.cell)

-- ITS VALUES

-- a column that its cursor finds is the one that is asked for, in the page's reading
along-cursor : (o : Open) (i k : ℕ) (db : List ℕ) (x : Result Located Refusal) {n columns : ℕ} {c : Cursor} {t at : ℕ}
    → usual.row_by (found_by x) ≡ row_with n columns c → ((l : Located) → x ≡ Ok l → located_in o i db ≡ Ok l) → slot_of k c db ≡ slot_at t at
    → (column_by k x ≡ column_at t at) × (c.reading ≡ o.page.reading)
along-cursor o i k db (Err refusal) e lies f = never cc
along-cursor o i k db (Ok l) {c = c} e lies f =
    let q : cursor_in l ≡ c = (row-parts e).2 in
    let h = lies l refl in
    let named : l.opened ≡ o = (held o i db h).opened in (
      sym (column-along k l db (placed-in o i db h))
          ∙ ap (λ (y : Cursor). slot_then l.opened.page (slot_of k y db)) q
          ∙ ap (slot_then l.opened.page) f,
      ap (λ (y : Cursor). y.reading) (sym q) ∙ ap (λ (y : Open). y.page.reading) named,
    )

pub row_shows : RowShows
row_shows reading number i places db table o n columns c e d k l room =
    let b = located-by reading number i db o e in
    let h = whole-found c columns db (found-whole (open_by o) i db (eqb o.reading 2) d) k l in
    let s = along-cursor (open_by o) i k db b.x (sym b.row ∙ d) b.lies h.is in
    let v : shown_of reading number i k db ≡ record { refused = accepted; value = value_at c.reading h.t h.at db } =
    b.shows k ∙ ap (shown_in (reading_by o.reading) db) s.0
    ∙ ap (λ (r : Reading). shown_in r db (column_at h.t h.at)) (sym s.1) ∙ shown-value c.reading db h.t h.at in
    rw (v, d, over-run (run_from places c db) table) (refl, place-holds k places c db (drop (length (words_in (run_from places c db))) table) room h.is)

-- HOW MANY

pub as-many-as-fit : AsManyAsFit
as-many-as-fit i places db o n columns c d = rw d (whole-count places c columns db (found-whole (open_by o) i db (eqb o.reading 2) d))
