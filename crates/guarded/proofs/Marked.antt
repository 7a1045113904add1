-- The mark of a cell that the code found: that of the cell which is located.
use Prim.Native.Nat.{ℕ, ◌≤◌}
use mathlib.Core.Path.{◌≡◌, ap, subst}
use mathlib.Core.List.{List}
use native.Mathlib.Omega.{arith}
use lib.ListN.{length}
use Rattle.columns.specs.Columns.{types_at}
use Rattle.columns.proofs.Opened.{cursor-types}
use Rattle.marks.specs.Marks.{lowest, mark_of}
use Rattle.cells.specs.Located.{Located}
use Rattle.row.specs.declared.FoundCell.{FoundCell}
use Rattle.row.specs.Found.{payload_from}
use Rattle.row.proofs.Placed.{Placed}
use Rattle.row.proofs.Told.{found_cell}

module _ (l : Located) (db : List ℕ) {f : FoundCell} (same : found_cell l ≡ f) (p : Placed l db) where
  -- its types lie in the bytes
  pub types-within : (f.cursor.at ≤ f.cursor.stop) × (f.cursor.stop ≤ length db)
  types-within =
      subst (λ (y : FoundCell). (y.cursor.at ≤ y.cursor.stop) × (y.cursor.stop ≤ length db)) same
      (omega arith, omega (arith, p.within, p.held.values))

  -- and they are the cell's
  pub mark-is : lowest f.cell.numbers.size.length f.cell.numbers.key.length f.cell.header.length (types_at f.cursor db) ≡ mark_of l.cell
  mark-is =
      subst (λ (y : FoundCell). lowest y.cell.numbers.size.length y.cell.numbers.key.length y.cell.header.length (types_at y.cursor db) ≡ mark_of l.cell) same
      (ap (lowest l.cell.numbers.size.length l.cell.numbers.key.length l.cell.header.length) (cursor-types l.opened.page.reading (payload_from l) l.cell db p.held))
