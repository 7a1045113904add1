-- What the calls on a cell answer, by the cell that is located; and what a found cell, as the code has it, tells of that.
use Prim.Native.Nat.{ℕ}
use mathlib.Core.Path.{◌≡◌, refl, ap}
use mathlib.Core.List.{List}
use Rattle.laws.proofs.Never.{never}
use Rattle.answers.specs.declared.Refusal.{Refusal}
use Rattle.cell.specs.Cell as cell
use Rattle.place.specs.declared.Page.{Page}
use Rattle.cells.specs.Located.{Located, located_of}
use Rattle.row.specs.declared.FoundCell.{FoundCell}
use Rattle.row.specs.Found.{cursor_in, found_by}
use Rattle.row.specs.Row.{cursor_by, cursor_of}
use Rattle.row.specs.Column.{column_by, column_of}
use Rattle.std.specs.Prelude.{Err, Ok, Result}

-- THE CALLS, of a cell that is located or refused

module _ (page : Page) (i : ℕ) (db : List ℕ) {x : Result Located Refusal} (e : located_of page i db ≡ x) where
  pub cursor-located : cursor_of page i db ≡ cursor_by (found_by x)
  unfolding cursor_of
  cursor-located = ap (λ (y : Result Located Refusal). cursor_by (found_by y)) e

  pub column-located : (k : ℕ) → column_of page i k db ≡ column_by k x
  unfolding column_of
  column-located k = ap (column_by k) e

-- A FOUND CELL

-- a located cell as the code has it
abbrev pub found_cell : Located → FoundCell
found_cell l = record { page = l.opened.page; cell = cell.told l.opened.page.reading l.cell; cursor = cursor_in l }

pub record Told (x : Result Located Refusal) (f : FoundCell) : Type 0 where
  pub l : Located
  pub is : x ≡ Ok l
  pub same : found_cell l ≡ f

pub told : (x : Result Located Refusal) {f : FoundCell} → found_by x ≡ Ok f → Told x f
told (Err refusal) e = never cc
told (Ok l) e = record { l = l; is = refl; same = cc }

pub told-refused : (x : Result Located Refusal) {refusal : Refusal} → found_by x ≡ Err refusal → x ≡ Err refusal
told-refused (Err refusal) e = cc
told-refused (Ok l) e = never cc
