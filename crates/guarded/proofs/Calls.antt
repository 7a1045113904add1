-- What the calls of the guarded reading answer, by the cell that it locates or refuses.
use Prim.Native.Nat.{ℕ}
use mathlib.Core.Path.{◌≡◌, ap}
use mathlib.Core.List.{List}
use Rattle.answers.specs.declared.Refusal.{Refusal}
use Rattle.cells.specs.Located.{Located}
use Rattle.row.specs.Found.{found_by}
use Rattle.row.specs.Row.{cursor_by}
use Rattle.row_head.specs.Head.{count_by, row_by}
use Rattle.row.specs.Column.{column_by}
use Rattle.row_values.specs.File.{shown_by}
use Rattle.guarded.specs.Guarded.{located_of, count_of, row_of, cursor_of, shown_of}
use Rattle.std.specs.Prelude.{Result}

module _ (number i : ℕ) (db : List ℕ) {x : Result Located Refusal} (e : located_of number i db ≡ x) where
  pub guarded-count-located : count_of number i db ≡ count_by x
  unfolding count_of
  guarded-count-located = ap count_by e

  pub guarded-row-located : row_of number i db ≡ row_by x
  unfolding row_of
  guarded-row-located = ap row_by e

  pub guarded-cursor-located : cursor_of number i db ≡ cursor_by (found_by x)
  unfolding cursor_of
  guarded-cursor-located = ap (λ (y : Result Located Refusal). cursor_by (found_by y)) e

pub guarded-shown-located : (number i k : ℕ) (db : List ℕ) {x : Result Located Refusal} → located_of number i db ≡ x
    → shown_of number i k db ≡ shown_by db (column_by k x)
unfolding shown_of
guarded-shown-located number i k db e = ap (λ (y : Result Located Refusal). shown_by db (column_by k y)) e
