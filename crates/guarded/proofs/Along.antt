-- What the guarded reading locates is what the file reading locates, and its cursor comes to the columns of the definition.
use Prim.Native.Nat.{ℕ}
use mathlib.Core.Path.{◌≡◌, refl, ◌∙◌}
use mathlib.Core.List.{List}
use Rattle.answers.specs.declared.Refusal.{Refusal}
use Rattle.place.specs.Place.{file_page}
use Rattle.cells.specs.Located as cells
use Rattle.cells.specs.Located.{Located}
use Rattle.cells.proofs.Laws.{located-open}
use Rattle.row.specs.Found.{found_by}
use Rattle.row.specs.Column.{column_by, column_from}
use Rattle.row.proofs.Placed.{placed, column-along}
use Rattle.guarded.specs.Guarded.{located_of}
use Rattle.guarded.proofs.Guard.{guarded}
use Rattle.std.specs.Prelude.{Err, Ok, Result}

-- what is located is what the file reading locates
pub file-located : (n i : ℕ) (db : List ℕ) {l : Located} → located_of n i db ≡ Ok l → cells.located_of (file_page n) i db ≡ Ok l
file-located n i db e = let g = guarded n i db e in located-open (file_page n) i db g.opened ∙ g.is.located

pub found-column : (k n i : ℕ) (db : List ℕ) → column_from k db (found_by (located_of n i db)) ≡ column_by k (located_of n i db)
found-column k n i db = go (located_of n i db) refl
  where
    go : (x : Result Located Refusal) → located_of n i db ≡ x → column_from k db (found_by x) ≡ column_by k x
    go (Err refusal) e = refl
    go (Ok l) e = column-along k l db (placed (file_page n) i db (file-located n i db e))
