-- A row that is found was checked: its columns are all there.
use Prim.Native.Nat.{ℕ}
use mathlib.Core.Path.{◌≡◌, refl, sym, ◌∙◌}
use mathlib.Core.List.{List}
use mathlib.Core.Bool.{Bool, true, false}
use Rattle.laws.proofs.Never.{never}
use Rattle.answers.specs.declared.Refusal.{Refusal}
use Rattle.record.specs.Types.{count}
use Rattle.columns.specs.declared.Cursor.{Cursor}
use Rattle.page.specs.declared.Open.{Open}
use Rattle.cells.specs.Located.{Located}
use Rattle.cells.specs.Located as cells
use Rattle.row.specs.Found.{cursor_in, found_by}
use Rattle.guarded.specs.Guarded as guarded
use Rattle.guarded.proofs.Guard.{guarded-in}
use Rattle.usual.specs.Usual.{row_by, row_in}
use Rattle.usual.proofs.Rows.{row-found, row-parts}
use Rattle.checked.specs.Whole.{Whole}
use Rattle.checked.proofs.Found.{in_place}
use Rattle.std.specs.Prelude.{Err, Ok, Result}
use Rattle.usual.specs.Usual.{row_with}

by-cell : (x : Result Located Refusal) (db : List ℕ) {n k : ℕ} {c : Cursor} → row_by (found_by x) ≡ row_with n k c
    → ((l : Located) → x ≡ Ok l → Whole (cursor_in l) (count l.cell.types) db) → Whole c k db
by-cell (Err refusal) db d lies = never cc
by-cell (Ok l) db d lies = let p = row-parts d in rw (← p.1, ← p.2) (lies l refl)

pub found-whole : (o : Open) (i : ℕ) (db : List ℕ) {n k : ℕ} {c : Cursor} (g : Bool) → row_in g o i db ≡ row_with n k c → Whole c k db
found-whole o i db true e =
    by-cell (guarded.located_in o i db) db (sym (row-found true o i db) ∙ e) (λ l d. in_place o i db (guarded-in o i db d).located)
found-whole o i db false e = by-cell (cells.located_in o i db) db (sym (row-found false o i db) ∙ e) (λ l d. in_place o i db d)
