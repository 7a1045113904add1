-- What guarded says of a cell's varints is what file says: the cell that it shows is the file reading's.
use Prim.Native.Nat.{ℕ}
use mathlib.Core.Path.{◌≡◌, refl, sym, ◌∙◌}
use mathlib.Core.List.{List}
use Rattle.laws.proofs.Never.{never}
use Rattle.answers.specs.declared.Refusal.{Refusal}
use Rattle.place.specs.Place.{file_page}
use Rattle.cells.specs.Located as file
use Rattle.cells.specs.Located.{Located}
use Rattle.cells.proofs.Laws.{located-open}
use Rattle.row_head.specs.Head.{count_by, count_of, row_by, row_of}
use Rattle.row_head.proofs.Told.{count-located, row-located}
use Rattle.guarded.specs.Guarded.{located_of}
use Rattle.guarded.proofs.Guard.{guarded}
use Rattle.guarded.proofs.Calls.{guarded-count-located, guarded-row-located}
use Rattle.agreement.specs.Agreement.{ShortestAsFile}
use Rattle.row_head.specs.Head.{count_told, row_told}
use Rattle.std.specs.Prelude.{Err, Ok, Result}

-- the cell that guarded locates is located by file
as-file : (page i : ℕ) (db : List ℕ) {l : Located} → located_of page i db ≡ Ok l → file.located_of (file_page page) i db ≡ Ok l
as-file page i db e = let g = guarded page i db e in located-open (file_page page) i db g.opened ∙ g.is.located

pub shortest-as-file : ShortestAsFile
shortest-as-file page i db n z s = (
  λ e. by_count (located_of page i db) refl (sym (guarded-count-located page i db refl) ∙ e),
  λ e. by_row (located_of page i db) refl (sym (guarded-row-located page i db refl) ∙ e),
)
  where
    by_count : (x : Result Located Refusal) → located_of page i db ≡ x → count_by x ≡ count_told n s → count_of (file_page page) i db ≡ count_told n s
    by_count (Err refusal) q e = never cc
    by_count (Ok l) q e = count-located (file_page page) i db (as-file page i db q) ∙ e

    by_row : (x : Result Located Refusal) → located_of page i db ≡ x → row_by x ≡ row_told z s → row_of (file_page page) i db ≡ row_told z s
    by_row (Err refusal) q e = never cc
    by_row (Ok l) q e = row-located (file_page page) i db (as-file page i db q) ∙ e
