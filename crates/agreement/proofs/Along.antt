-- A cursor that the guarded reading opens goes along as one of the file reading.
use mathlib.Core.Path.{◌≡◌, refl, sym, ap, ◌∙◌}
use Rattle.laws.proofs.Never.{never}
use Rattle.answers.specs.declared.Refusal.{Refusal}
use Rattle.columns.specs.declared.Cursor.{Cursor}
use Rattle.columns.specs.Columns.{slot_of}
use Rattle.place.specs.declared.Page.{Page}
use Rattle.place.specs.Place.{file_page}
use Rattle.cells.specs.Located.{Located}
use Rattle.cells.proofs.Laws.{located-page}
use Rattle.row.specs.Found.{cursor_in, found_by}
use Rattle.row.specs.Row.{cursor_by}
use Rattle.row.specs.Column.{slot_then}
use Rattle.row_values.specs.File as file
use Rattle.row.proofs.Placed.{placed, column-along}
use Rattle.row_values.proofs.Along.{file-from}
use Rattle.guarded.specs.Guarded.{located_of, shown_of}
use Rattle.guarded.proofs.Along.{file-located}
use Rattle.guarded.proofs.Calls.{guarded-cursor-located, guarded-shown-located}
use Rattle.agreement.specs.Agreement.{CursorShows}
use Rattle.std.specs.Prelude.{Err, Ok, Result}

pub cursor-shows : CursorShows
cursor-shows page i k db c e = go (located_of page i db) refl (sym (guarded-cursor-located page i db refl) ∙ e)
  where
    go : (x : Result Located Refusal) → located_of page i db ≡ x → cursor_by (found_by x) ≡ Ok c
        → file.value_in (file_page page) (file.along k c db) ≡ shown_of page i k db
    go (Err refusal) q d = never cc
    go (Ok l) q d =
        let f = file-located page i db q in
        let z : c ≡ cursor_in l = cc in
        file-from (file_page page) k c db
        ∙ ap (λ (y : Cursor). file.shown_by db (slot_then (file_page page) (slot_of k y db))) z
        ∙ ap (λ (p : Page). file.shown_by db (slot_then p (slot_of k (cursor_in l) db))) (sym (located-page (file_page page) i db f))
        ∙ ap (file.shown_by db) (column-along k l db (placed (file_page page) i db f))
        ∙ sym (guarded-shown-located page i k db q)
