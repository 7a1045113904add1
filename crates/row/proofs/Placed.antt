-- Where the payload of a located cell stands: it lies in the bytes, and holds the cell's own record. So the cursor goes along the
-- cell's types.
use Prim.Native.Nat.{ℕ, ◌+◌, ◌-◌, ◌≤◌}
use mathlib.Core.Path.{◌≡◌, refl, ap, ◌∙◌}
use mathlib.Core.List.{List}
use native.Mathlib.Omega.{arith}
use lib.ListN.{length, take, drop}
use lib.Seq.{drop-drop}
use Rattle.laws.proofs.Parts.{part}
use Rattle.answers.specs.declared.Refusal.{Refusal}
use Rattle.cell.proofs.Inside as cell
use Rattle.columns.proofs.Opened.{cursor-slots}
use Rattle.place.specs.declared.Page.{Page}
use Rattle.place.specs.Place.{page_at}
use Rattle.page.specs.declared.Open.{Open}
use Rattle.cells.specs.Pointers.{part_at}
use Rattle.cells.specs.Located.{Located, located_in, located_of}
use Rattle.cells.proofs.Laws.{Held, held, part_length, steps, told_of}
use Rattle.row.specs.Found.{payload_from, found_by, cursor_for, Lying}
use Rattle.row.specs.Column.{slot_then, column_by, column_of, column_from}
use Rattle.std.specs.Prelude.{Err, Ok, Result}

pub record Placed (l : Located) (db : List ℕ) : Type 0 where
  pub within : payload_from l + l.cell.payload ≤ length db
  pub held : cell.Held l.opened.page.reading (take l.cell.payload (drop (payload_from l) db)) l.cell

module _ (o : Open) (i : ℕ) (db : List ℕ) {l : Located} (h : Held o i db l) where
  abbrev s : List ℕ
  s = part_at o l.pointer (page_at o.at o.size db)

  abbrev n : ℕ
  n = l.cell.numbers.length

  lies : cell.Inside o.page.reading o.kind s l.cell
  lies = cell.inside o.page.reading o.kind o.end s h.cell

  within : l.pointer + (n + l.cell.payload) ≤ o.end
  within = let a = lies.within in let b = part_length o db h.lies l.pointer in omega (arith, h.within)

  -- the payload in the part of the page is the payload in the bytes
  payload-is : take l.cell.payload (drop n s) ≡ take l.cell.payload (drop (o.at + l.pointer + n) db)
  payload-is =
      let w = within in
      let short = h.lies.short in
      let page = page_at o.at o.size db in
      let e : o.at + (l.pointer + n) ≡ o.at + l.pointer + n = omega arith in
      part l.cell.payload n (o.end - l.pointer) (drop l.pointer page) (omega arith)
      ∙ ap (take l.cell.payload) (drop-drop n l.pointer page)
      ∙ part l.cell.payload (l.pointer + n) o.size (drop o.at db) (omega arith)
      ∙ ap (take l.cell.payload) (drop-drop (l.pointer + n) o.at db ∙ ap (λ (m : ℕ). drop m db) e)

  pub held-placed : Placed l db
  held-placed =
      let w = within in
      record {
        within = rw h.opened (omega (arith, h.lies.short, h.lies.there));
        held = rw (h.opened, ← payload-is) lies.held;
      }

pub placed-in : (o : Open) (i : ℕ) (db : List ℕ) {l : Located} → located_in o i db ≡ Ok l → Placed l db
placed-in o i db e = held-placed o i db (held o i db e)

pub placed : (page : Page) (i : ℕ) (db : List ℕ) {l : Located} → located_of page i db ≡ Ok l → Placed l db
placed page i db e = let s = steps page i db e in placed-in s.o i db s.second

-- a located cell by its page and what the code has of it: what the code asks of the two, and what it makes of them
module _ (o : Open) (i : ℕ) (db : List ℕ) {l : Located} (e : located_in o i db ≡ Ok l) where
  pub lying : Lying o (told_of l) (length db)
  lying = let p = placed-in o i db e in rw (← (held o i db e).opened) (p.within, p.held.values, omega arith)

  pub found-told : found_by (Ok l) ≡ Ok (record { page = o.page; cell = (told_of l).cell; cursor = cursor_for o (told_of l) })
  found-told = rw (held o i db e).opened

-- along the cursor are the columns of the definition
pub column-along : (k : ℕ) (l : Located) (db : List ℕ) → Placed l db → column_from k db (found_by (Ok l)) ≡ column_by k (Ok l)
column-along k l db p =
    ap (slot_then l.opened.page) (cursor-slots l.opened.page.reading (payload_from l) l.cell db p.held p.within k)

pub found-column : (k : ℕ) (page : Page) (i : ℕ) (db : List ℕ) → column_from k db (found_by (located_of page i db)) ≡ column_of page i k db
unfolding column_of
found-column k page i db = go (located_of page i db) refl
  where
    go : (x : Result Located Refusal) → located_of page i db ≡ x → column_from k db (found_by x) ≡ column_by k x
    go (Err refusal) e = refl
    go (Ok l) e = column-along k l db (placed page i db e)
