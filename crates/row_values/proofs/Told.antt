-- What the calls on a column answer, by the cell that is located.
use Prim.Native.Nat.{ℕ}
use mathlib.Core.Path.{◌≡◌, ap}
use mathlib.Core.List.{List}
use Rattle.answers.specs.declared.Refusal.{Refusal}
use Rattle.place.specs.Place.{old_page, file_page}
use Rattle.cells.specs.Located.{Located, located_of}
use Rattle.row.specs.Column.{column_by}
use Rattle.row.proofs.Told.{column-located}
use Rattle.row_values.specs.Old as old
use Rattle.row_values.specs.File as file
use Rattle.std.specs.Prelude.{Result}

module _ (number i k : ℕ) (db : List ℕ) {x : Result Located Refusal} where
  pub old-shown-located : located_of (old_page number) i db ≡ x → old.shown_of number i k db ≡ old.shown_by db (column_by k x)
  unfolding old.shown_of
  old-shown-located e = ap (old.shown_by db) (column-located (old_page number) i db e k)

  pub file-shown-located : located_of (file_page number) i db ≡ x → file.shown_of number i k db ≡ file.shown_by db (column_by k x)
  unfolding file.shown_of
  file-shown-located e = ap (file.shown_by db) (column-located (file_page number) i db e k)
