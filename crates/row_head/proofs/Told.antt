-- What the calls answer, by the cell that is located; and that a found cell, as the code has it, tells the same.
use Prim.Native.Nat.{ℕ}
use mathlib.Core.Path.{◌≡◌, refl, ap}
use mathlib.Core.List.{List}
use Rattle.answers.specs.declared.Refusal.{Refusal}
use Rattle.record.specs.Types.{count}
use Rattle.shortest_cells.specs.Cells.{cell_shortest, all_shortest}
use Rattle.columns.proofs.Opened.{cursor-types}
use Rattle.place.specs.declared.Page.{Page}
use Rattle.cells.specs.Located.{Located, row_number, located_of}
use Rattle.row.specs.Found.{payload_from, found_by}
use Rattle.row.proofs.Told.{found_cell}
use Rattle.row.proofs.Placed.{Placed}
use Rattle.row_head.specs.Head.{count_by, count_of, row_by, row_of, shortest_by, shortest_in, shortest_for, count_for, row_for}
use Rattle.row_head.specs.Head.{count_told, row_told}
use Rattle.std.specs.Prelude.{Err, Ok, Result}

module _ (page : Page) (i : ℕ) (db : List ℕ) {x : Result Located Refusal} (e : located_of page i db ≡ x) where
  pub count-located : count_of page i db ≡ count_by x
  unfolding count_of
  count-located = ap count_by e

  pub row-located : row_of page i db ≡ row_by x
  unfolding row_of
  row-located = ap row_by e

-- the types before the cursor of a located cell are the cell's
shortest-found : (l : Located) (db : List ℕ) → Placed l db → shortest_in (found_cell l) db ≡ cell_shortest l.cell
shortest-found l db p =
    ap (all_shortest l.cell.numbers.size l.cell.numbers.key l.cell.header l.cell.row)
    (cursor-types l.opened.page.reading (payload_from l) l.cell db p.held)

module _ (db : List ℕ) where
  pub shortest-located : (x : Result Located Refusal) → ((l : Located) → x ≡ Ok l → Placed l db) → shortest_for (found_by x) db ≡ shortest_by x
  shortest-located (Err refusal) p = refl
  shortest-located (Ok l) p = shortest-found l db (p l refl)

  pub count-found : (x : Result Located Refusal) → ((l : Located) → x ≡ Ok l → Placed l db) → count_for (found_by x) db ≡ count_by x
  count-found (Err refusal) p = refl
  count-found (Ok l) p = ap (count_told (count l.cell.types)) (shortest-found l db (p l refl))

  pub row-found : (x : Result Located Refusal) → ((l : Located) → x ≡ Ok l → Placed l db) → row_for (found_by x) db ≡ row_by x
  row-found (Err refusal) p = refl
  row-found (Ok l) p = ap (row_told (row_number l.cell.row.value)) (shortest-found l db (p l refl))
