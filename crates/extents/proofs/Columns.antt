-- The columns of a cell are the slots of its cursor.
use Prim.Native.Nat.{ℕ, suc, ◌+◌, ◌-◌, ◌≤◌, ◌<◌}
use mathlib.Core.Path.{◌≡◌, refl, sym, ap, ◌∙◌}
use mathlib.Core.List.{List}
use native.Mathlib.Omega.{arith}
use Rattle.laws.proofs.Never.{never}
use Rattle.answers.specs.declared.Reason.TheVariants as re
use Rattle.answers.specs.declared.Refusal.{Refusal}
use Rattle.answers.specs.declared.Refusal.TheVariants.{OnPage}
use Rattle.record.specs.Types.{count}
use Rattle.record.specs.Record.{values_at}
use Rattle.record.proofs.Room.{fits-past}
use Rattle.columns.specs.declared.Cursor.{Cursor}
use Rattle.columns.specs.Columns.{slot_of}
use Rattle.columns.proofs.Extents.{found_first, found_within, found-next, past-found, found_none}
use Rattle.place.specs.declared.Page.{Page}
use Rattle.place.specs.Place.{old_page, file_page}
use Rattle.cells.specs.Located.{Located, located_of}
use Rattle.cells.proofs.Laws.{located-page}
use Rattle.row.specs.Found.{payload_from, cursor_in, found_by}
use Rattle.row.specs.Row.{cursor_by, cursor_of}
use Rattle.row_head.specs.Head.{count_by}
use Rattle.row.specs.Column.{slot_then, slot_on, column_by, column_of}
use Rattle.row_values.specs.Old as old
use Rattle.row_values.specs.File as file
use Rattle.row.proofs.Placed.{placed, column-along}
use Rattle.row.proofs.Told.{cursor-located, column-located}
use Rattle.row_head.proofs.Told.{count-located}
use Rattle.row_values.proofs.Told.{old-shown-located, file-shown-located}
use Rattle.row_values.proofs.Along.{old-from, file-from}
use Rattle.extents.specs.Columns.{There, AsManyAsCounted, Extents, NoGap, CursorShows}
use Rattle.columns.specs.Columns.{slot_at}
use Rattle.columns.specs.declared.Slot.{Slot}
use Rattle.row.specs.Column.{column_at}
use Rattle.row_head.specs.Head.{count_told}
use Rattle.std.specs.Prelude.{Err, None, Ok, Option, Result, Some}
use Rattle.row_head.proofs.Parts.{count-parts}

-- A CELL THAT IS LOCATED

-- the cell whose cursor is c
record Of (page : Page) (i : ℕ) (db : List ℕ) (c : Cursor) : Type 0 where
  l : Located
  is : located_of page i db ≡ Ok l
  cursor : cursor_in l ≡ c

of : (page : Page) (i : ℕ) (db : List ℕ) (c : Cursor) → cursor_of page i db ≡ Ok c → Of page i db c
of page i db c e = go (located_of page i db) refl (sym (cursor-located page i db refl) ∙ e)
  where
    go : (x : Result Located Refusal) → located_of page i db ≡ x → cursor_by (found_by x) ≡ Ok c → Of page i db c
    go (Err refusal) f g = never cc
    go (Ok l) f g = record { l = l; is = f; cursor = cc }

module _ (page : Page) (i k : ℕ) (db : List ℕ) (c : Cursor) (o : Of page i db c) where
  slot-shown : {t at : ℕ} → column_of page i k db ≡ column_at t at → slot_on k o.l ≡ slot_at t at
  slot-shown {t} {at} d = go (slot_on k o.l) refl (sym (column-located page i db o.is k) ∙ d)
    where
      go : (s : Option Slot) → slot_on k o.l ≡ s → slot_then o.l.opened.page s ≡ column_at t at → s ≡ slot_at t at
      go None f g = never cc
      go (Some slot) f g = cc

-- EXTENTS

pub extents : Extents
extents page i k db c t at w e d f =
    let o = of page i db c e in
    let l = o.l in
    let p = placed page i db o.is in
    let x = found_within k (payload_from l + values_at l.opened.page.reading l.cell.header) (payload_from l + l.cell.payload) l.cell.types
    (omega (arith, p.held.values)) (slot-shown page i k db c o d) in
    let q : Some x.w ≡ Some w = sym x.width ∙ f in
    let g : x.w ≡ w = cc in
    rw (← o.cursor) (x.after, rw g at x.before, p.within)

pub no_gap : NoGap
no_gap page i db c e =
    let o = of page i db c e in
    let l = o.l in
    let from = payload_from l + values_at l.opened.page.reading l.cell.header in
    let end = payload_from l + l.cell.payload in (
      λ t at d. rw (← o.cursor) (found_first from end l.cell.types (slot-shown page i 0 db c o d)),
      λ k t at w t' at' d f g. found-next k from end l.cell.types (slot-shown page i k db c o d) f (slot-shown page i (suc k) db c o g),
    )

-- AS MANY AS COUNTED

pub as-many-as-counted : AsManyAsCounted
as-many-as-counted page i db n s e = go (located_of page i db) refl (sym (count-located page i db refl) ∙ e)
  where
    go : (x : Result Located Refusal) → located_of page i db ≡ x → count_by x ≡ count_told n s
        → ((k : ℕ) → k < n → There (column_of page i k db)) × ((k : ℕ) → n ≤ k → column_of page i k db ≡ Err (OnPage page.number re.NoSuchColumn))
    go (Err refusal) f g = never cc
    go (Ok l) f g =
        let p = placed page i db f in
        let from = payload_from l + values_at l.opened.page.reading l.cell.header in
        let end = payload_from l + l.cell.payload in
        let m = (count-parts (sym g)).0 in
        let z : end - from ≡ l.cell.payload - values_at l.opened.page.reading l.cell.header = omega arith in
        let past = fits-past l.opened.page.reading l.cell.types _ p.held.fits in (
          λ k h.
              let t = past-found k 0 from end l.cell.types (rw z past) (rw (← m) h) in
              record { t = t.t; at = t.at; is = column-located page i db f k ∙ ap (slot_then l.opened.page) t.is },
          λ k h. column-located page i db f k ∙ ap (slot_then l.opened.page) (found_none k from end l.cell.types (rw (← m) h)) ∙ ap (λ (p : Page). Err (OnPage p.number re.NoSuchColumn)) (located-page page i db f),
        )

-- ALONG A CURSOR

-- the cursor's column is the one that is asked for
column-from : (page : Page) (i k : ℕ) (db : List ℕ) {l : Located} → located_of page i db ≡ Ok l → slot_then page (slot_of k (cursor_in l) db) ≡ column_by k (Ok l)
column-from page i k db {l} e =
    ap (λ (p : Page). slot_then p (slot_of k (cursor_in l) db)) (sym (located-page page i db e)) ∙ column-along k l db (placed page i db e)

old-shows : (number i k : ℕ) (db : List ℕ) (c : Cursor) → cursor_of (old_page number) i db ≡ Ok c
    → old.value_in (old_page number) (old.along k c db) ≡ old.shown_of number i k db
old-shows number i k db c e =
    let o = of (old_page number) i db c e in
    let x = ap (λ (y : Cursor). slot_then (old_page number) (slot_of k y db)) (sym o.cursor) ∙ column-from (old_page number) i k db o.is in
    old-from (old_page number) k c db ∙ ap (old.shown_by db) x ∙ sym (old-shown-located number i k db o.is)

file-shows : (number i k : ℕ) (db : List ℕ) (c : Cursor) → cursor_of (file_page number) i db ≡ Ok c
    → file.value_in (file_page number) (file.along k c db) ≡ file.shown_of number i k db
file-shows number i k db c e =
    let o = of (file_page number) i db c e in
    let x = ap (λ (y : Cursor). slot_then (file_page number) (slot_of k y db)) (sym o.cursor) ∙ column-from (file_page number) i k db o.is in
    file-from (file_page number) k c db ∙ ap (file.shown_by db) x ∙ sym (file-shown-located number i k db o.is)

pub cursor-shows : CursorShows
cursor-shows number i k db c = (old-shows number i k db c, file-shows number i k db c)
