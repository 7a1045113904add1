-- The columns of a cell that the file reading locates on a table leaf and that has no mark: both readings find them at the same
-- places, and they say the same.
use Prim.Native.Nat.{ℕ, ◌+◌, ◌-◌, ◌<◌}
use mathlib.Core.Path.{◌≡◌, sym, ap, subst, ◌∙◌}
use mathlib.Core.List.{List}
use native.Mathlib.Omega.{arith}
use lib.ListN.{drop}
use Rattle.record.specs.Types.{count, nth_type, walk}
use Rattle.record.specs.Record.{values_at}
use Rattle.record.proofs.Room.{Past, fits-past}
use Rattle.kinds.specs.declared.Kind.TheVariants.{LeafTable}
use Rattle.columns.specs.Columns.{slot_in}
use Rattle.columns.proofs.Extents.{past-found, found_type, past_same}
use Rattle.marks.specs.Marks.{mark_of}
use Rattle.marks.proofs.Same.{Unmarked, clear}
use Rattle.marks.proofs.Differ.{none-otherwise}
use Rattle.place.specs.Place.{old_page, file_page}
use Rattle.page.specs.declared.Open.{Open}
use Rattle.page.specs.Open.{open_of}
use Rattle.cells.specs.Located.{Located, located_in}
use Rattle.cells.proofs.Laws.{held}
use Rattle.row.specs.Found.{payload_from}
use Rattle.row.specs.Column.{slot_on}
use Rattle.row.proofs.Placed.{Placed, placed-in, placed}
use Rattle.agreement.proofs.Values.{value_same}
use Rattle.agreement.proofs.Cells.{by-file, old_located, old-shown}
use Rattle.agreement.proofs.Rows.{old_in, file_in, old_value, file_value}
use Rattle.columns.specs.Columns.{slot_at}
use Rattle.std.specs.Prelude.{None, Ok}

-- A LOCATED CELL: every column of it is there

-- where its values begin in the bytes, and where they end
abbrev from : Located → ℕ
from l = payload_from l + values_at l.opened.page.reading l.cell.header

abbrev end : Located → ℕ
end l = payload_from l + l.cell.payload

module _ {l : Located} {db : List ℕ} (there : Placed l db) where
  past : Past (walk 0 (end l - from l) l.cell.types)
  past =
      let z : end l - from l ≡ l.cell.payload - values_at l.opened.page.reading l.cell.header = omega arith in
      rw z (fits-past l.opened.page.reading l.cell.types _ there.held.fits)

  -- column k stands somewhere, with its type
  pub record Stands (k : ℕ) : Type 0 where
    pub at : ℕ
    pub is : slot_on k l ≡ slot_at (nth_type k l.cell.types) at

  pub stands : (k : ℕ) → k < count l.cell.types → Stands k
  stands k h =
      let found = past-found k 0 (from l) (end l) l.cell.types past h in
      let t = found_type k (from l) (end l) l.cell.types found.is in
      record { at = found.at; is = found.is ∙ ap (λ (x : ℕ). slot_at x found.at) (sym t) }

-- THE SAME CELL IN BOTH READINGS

module _ (n i : ℕ) (db : List ℕ) {o : Open} {l : Located} (opened : open_of (file_page n) db ≡ Ok o) (located : located_in o i db ≡ Ok l)
    (leaf : o.kind ≡ LeafTable) (none : mark_of l.cell ≡ None) where
  abbrev l' : Located
  l' = old_located n i db opened located leaf

  file-placed : Placed l db
  file-placed = placed-in o i db located

  old-placed : Placed l' db
  old-placed = placed (old_page (n - 1)) i db (old-shown n i db opened located leaf none)

  unmarked : Unmarked l.cell.numbers.size.length l.cell.numbers.key.length l.cell.header.length l.cell.types
  unmarked = clear none

  same_start : from l' ≡ from l
  same_start = rw ((held o i db located).opened, by-file n i db opened located leaf) (omega (arith, unmarked.narrow))

  same-slot : (k : ℕ) → slot_on k l' ≡ slot_on k l
  same-slot k =
      ap (λ (z : ℕ). slot_in k z (end l') l.cell.types) same_start
      ∙ past_same k 0 (from l) (end l') (end l) l.cell.types (subst (λ (z : ℕ). Past (walk 0 (end l' - z) l.cell.types)) same_start (past old-placed)) (past file-placed)

  pub same-value : (k : ℕ) → k < count l.cell.types → old_value db (Ok l') k ≡ file_value db (Ok l) k
  same-value k h =
      let ts = l.cell.types in
      let here = stands file-placed k h in
      let plain = none-otherwise k ts unmarked.ones unmarked.empties h in
      ap (old_in db l'.opened.page) (same-slot k ∙ here.is)
      ∙ value_same db here.at (drop here.at db) (nth_type k ts) plain
      ∙ sym (ap (file_in db l.opened.page) here.is)
