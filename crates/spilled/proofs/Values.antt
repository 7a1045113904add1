-- A column of a cell that was found with a buffer lent: along its cursor, in the bytes that this counts in, is the column of
-- the definition.
use Prim.Native.Nat.{ℕ}
use mathlib.Core.Path.{◌≡◌, sym, ap, ◌∙◌}
use mathlib.Core.List.{List}
use native.Mathlib.Nat.{zero-add}
use native.Mathlib.Omega.{arith}
use lib.ListN.{length, take, drop}
use lib.Seq.{take_all, take_at}
use Rattle.laws.proofs.Never.{never}
use Rattle.reading.specs.declared.Reading.TheVariants.{File as file}
use Rattle.answers.specs.declared.Refusal.{Refusal}
use Rattle.record.specs.Record.{values_at}
use Rattle.cell.specs.Cell.{Cell}
use Rattle.cell.proofs.Inside.{Held}
use Rattle.columns.specs.declared.Cursor.{Cursor}
use Rattle.columns.specs.Columns.{slot_in, slot_of}
use Rattle.columns.specs.Opened.{cursor_at}
use Rattle.columns.proofs.Opened.{cursor-slots}
use Rattle.place.specs.declared.Page.{Page}
use Rattle.place.specs.Place.{file_page}
use Rattle.row.specs.declared.FoundCell.{FoundCell}
use Rattle.row.specs.Column.{slot_then, column_from}
use Rattle.row_values.specs.File.{shown_by}
use Rattle.row.proofs.Placed.{placed, column-along}
use Rattle.spills.specs.declared.Source.TheVariants.{Database, Buffer}
use Rattle.spilled.specs.Lent.{Spilled, Lent, whole, gathered, lent_of, buffer_of, cursor_over, found_over, lent_by}
use Rattle.spilled.specs.Values.{column_in, from, value_by, value_of}
use Rattle.spilled.specs.Steps.{value_over}
use Rattle.spilled.proofs.Got.{Got, of-located, of-got}
use Rattle.spilled.proofs.Parts.{found-parts}
use Rattle.columns.specs.declared.Slot.{Slot}
use Rattle.spilled.specs.Lent.{found_from}
use Rattle.std.specs.Prelude.{Err, Ok, Result}

-- the payload is all that the buffer begins with
pub got-part : (c : Spilled) {after b : List ℕ} → Got c after b → take c.cell.payload (drop 0 after) ≡ c.payload
got-part c {after} {b} g = rw g.buffer (take_at c.payload (drop (length c.payload) b) c.cell.payload g.size)

-- its cursor is one that is opened at the payload's beginning
pub cursor-over : (c : Cell) → cursor_at file 0 c ≡ cursor_over c
cursor-over c = rw (zero-add c.header.length, zero-add (values_at file c.header), zero-add c.payload)

-- and along it are its columns
pub column-gathered : (k : ℕ) (c : Spilled) → length c.payload ≡ c.cell.payload → Held file c.payload c.cell
    → column_from k c.payload (Ok (found_over c)) ≡ column_in k c
column-gathered k c l h =
    let t : take c.cell.payload c.payload ≡ c.payload = take_all c.cell.payload c.payload (omega arith) in
    let e = cursor-slots file 0 c.cell c.payload (rw t h) (omega arith) k in
    let f : slot_of k (cursor_over c.cell) c.payload ≡ slot_in k (values_at file c.cell.header) c.cell.payload c.cell.types =
    ap (λ (z : Cursor). slot_of k z c.payload) (sym (cursor-over c.cell)) ∙ e ∙ rw (zero-add (values_at file c.cell.header), zero-add c.cell.payload) in
    ap (slot_then c.page) f

module _ (page : Page) (i k : ℕ) (db b : List ℕ) where
  pub value-refused : (x : Result Lent Refusal) {refusal : Refusal} → lent_by x ≡ Err refusal → value_by k db x ≡ Err refusal
  value-refused (Err other) e = cc
  value-refused (Ok (whole l)) e = never cc
  value-refused (Ok (gathered c)) e = never cc

  module _ {f : FoundCell} where
    pub value-whole : (x : Result Lent Refusal) → lent_of page i (length b) db ≡ x → lent_by x ≡ found_from f Database → value_over k db f Database ≡ value_by k db x
    value-whole (Err other) q e = never cc
    value-whole (Ok (gathered c)) q e = let s = (found-parts e).1 in never cc
    value-whole (Ok (whole l)) q e =
        let p = placed page i db (of-located page i db b (length b) q) in
        let s = (found-parts e).0 in
        rw (← s) (ap (λ (z : Result Slot Refusal). from Database (shown_by db z)) (column-along k l db p))

    pub value-gathered : (x : Result Lent Refusal) → lent_of page i (length b) db ≡ x → lent_by x ≡ found_from f Buffer
        → value_over k (take f.cell.payload (drop 0 (buffer_of page i db b))) f Buffer ≡ value_by k db x
    value-gathered (Err other) q e = never cc
    value-gathered (Ok (whole l)) q e = let s = (found-parts e).1 in never cc
    value-gathered (Ok (gathered c)) q e =
        let g = of-got page i db b q in
        let s = (found-parts e).0 in
        rw (← s, got-part c g) (ap (λ (z : Result Slot Refusal). from Buffer (shown_by c.payload z)) (column-gathered k c g.size g.held))

-- the call on a column, by the cell that is found
pub value_found : (number i k room : ℕ) (db : List ℕ) {x : Result Lent Refusal} → lent_of (file_page number) i room db ≡ x → value_of number i k room db ≡ value_by k db x
unfolding value_of
value_found number i k room db e = ap (value_by k db) e
