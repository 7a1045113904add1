-- What callers cite of a page call: that the cells of an accepted page fit in its table; that each of them is located; and the
-- entries, one after the other.
use Prim.Native.Nat.{ℕ, zero, suc, ◌+◌, ◌≤◌, ◌<◌, zero-le}
use mathlib.Core.Path.{◌≡◌, refl, ap, ◌∙◌}
use mathlib.Core.List.{List, [], ◌∷◌, ◌++◌}
use mathlib.Core.Bool.{Bool, true, false}
use native.Mathlib.Omega.{arith}
use native.Mathlib.Nat.{le_refl}
use native.Mathlib.Numerals.{add-one}
use lib.Dec.{ltb}
use lib.ListN.{length, drop, length-append}
use borrow.Author.Tests.{ltb-false, lt-ltb, le-ltb}
use Rattle.laws.specs.Pick.{pick}
use Rattle.laws.proofs.Never.{never}
use Rattle.answers.specs.declared.Reason.TheVariants as re
use Rattle.answers.specs.declared.Refusal.{Refusal}
use Rattle.place.specs.declared.Page.{Page}
use Rattle.place.specs.Place.{page_at}
use Rattle.page.specs.declared.Open.{Open}
use Rattle.site.specs.Site.{on_page}
use Rattle.page.specs.Open.{open_of, lies_in}
use Rattle.page.proofs.Opened.{opened-lies}
use Rattle.page.proofs.Steps.{open-page, open-fits}
use Rattle.cells.specs.Located.{Located, located_in, located_answer}
use Rattle.cells.proofs.Laws.{Steps}
use Rattle.sound.specs.Cells.{cells_from}
use Rattle.sound.proofs.Laws.{each}
use Rattle.table.specs.declared.Head.{Head}
use Rattle.table.specs.Head.{head_of}
use Rattle.table.specs.Entry.{entry_by, entry_for, entries}
use Rattle.table.specs.Page.{head_by, page_in, page_for, page_of, written}
use Rattle.std.specs.Prelude.{Err, Ok, Result, ⊤}

-- AN ACCEPTED PAGE

-- of an opened page
record Accepted (o : Open) (room : ℕ) (db : List ℕ) (head : Head) : Type 0 where
  cells : head.cells ≡ o.cells
  fits : o.cells ≤ room
  sound : cells_from o db 0 o.cells ≡ Ok tt

abbrev head_in : Open → List ℕ → Head
head_in o db = head_of o (drop o.from (page_at o.at o.size db))

module _ (o : Open) (room : ℕ) (db : List ℕ) {head : Head} where
  by-cells : o.cells ≤ room → (x : Result ⊤ Refusal) → cells_from o db 0 o.cells ≡ x → head_by (head_in o db) x ≡ Ok head → Accepted o room db head
  unfolding head_of
  by-cells f (Ok tt) s e =
      let h : head ≡ head_in o db = cc in
      record { cells = ap (λ (h : Head). h.cells) h; fits = f; sound = s }
  by-cells f (Err refusal) s e = never cc

  by-room : (b : Bool) → ltb room o.cells ≡ b
      → pick b (on_page o.page re.TableTooShort) (head_by (head_in o db) (cells_from o db 0 o.cells)) ≡ Ok head → Accepted o room db head
  by-room true t e = never cc
  by-room false t e = by-cells (ltb-false room o.cells t) (cells_from o db 0 o.cells) refl e

  accepted : page_in o room db ≡ Ok head → Accepted o room db head
  unfolding page_in
  accepted e = go (lies_in (length db) o) e
    where
      go : (b : Bool)
          → pick b (pick (ltb room o.cells) (on_page o.page re.TableTooShort) (head_by (head_in o db) (cells_from o db 0 o.cells))) (on_page o.page re.PageAbsent) ≡ Ok head
          → Accepted o room db head
      go true d = by-room (ltb room o.cells) refl d
      go false d = never cc

-- a page that is shown has no more cells than the table has places, and one that is refused writes none
pub cells-within : (opening : Result Open Refusal) (room : ℕ) (db : List ℕ) → written (page_for opening room db) ≤ room
unfolding page_for
cells-within (Err refusal) room db = zero-le
cells-within (Ok o) room db = go (page_in o room db) refl
  where
    go : (x : Result Head Refusal) → page_in o room db ≡ x → written x ≤ room
    go (Err refusal) e = zero-le
    go (Ok head) e = let a = accepted o room db e in omega (arith, a.cells, a.fits)

-- of a page that is opened the room is tested first, and only then its cells
module _ (page : Page) (db : List ℕ) (o : Open) (e : open_of page db ≡ Ok o) where
  pub page-too-short : (room : ℕ) → room < o.cells → page_of page room db ≡ on_page page re.TableTooShort
  unfolding page_for page_in
  page-too-short room h = rw (e, opened-lies o db (open-fits page db e), lt-ltb room o.cells h, open-page page db e)

  pub page-long-enough : (room : ℕ) → o.cells ≤ room → page_of page room db ≡ page_of page o.cells db
  unfolding page_for page_in
  page-long-enough room h = rw (e, opened-lies o db (open-fits page db e), le-ltb room o.cells h, le-ltb o.cells o.cells (le_refl o.cells))

-- ITS CELLS

-- the entry of a cell of an opened page
pub entry-opened : (o : Open) (db : List ℕ) (i : ℕ) → entry_for (Ok o) db i ≡ entry_by o (located_answer (located_in o i db))
unfolding entry_for
entry-opened o db i = refl

-- a cell of a page, with the way to it
pub record Cell (page : Page) (i : ℕ) (db : List ℕ) : Type 0 where
  pub l : Located
  pub steps : Steps page i db l

-- on a page that the call accepts, every cell is located
pub page-cell : (page : Page) (room i : ℕ) (db : List ℕ) {head : Head} → page_of page room db ≡ Ok head → i < head.cells → Cell page i db
unfolding page_for
page-cell page room i db {head} e b = go (open_of page db) refl e
  where
    go : (x : Result Open Refusal) → open_of page db ≡ x → page_for x room db ≡ Ok head → Cell page i db
    go (Err refusal) q d = never cc
    go (Ok o) q d =
        let a = accepted o room db d in
        let z : 0 + i ≡ i = omega arith in
        let c = rw z at (each o db 0 o.cells a.sound i (omega (arith, a.cells))) in
        record { l = c.l; steps = record { o = o; first = q; second = c.is } }

-- ENTRIES

module _ (opening : Result Open Refusal) (db : List ℕ) where
  pub entries_none : entries opening db 0 ≡ []
  unfolding entries
  entries_none = refl

  pub entries_next : (n : ℕ) → entries opening db (suc n) ≡ entries opening db n ++ entry_for opening db n ∷ []
  unfolding entries
  entries_next n = refl

  pub entries-length : (n : ℕ) → length (entries opening db n) ≡ n
  entries-length zero = ap length entries_none
  entries-length (suc n) =
      ap length (entries_next n) ∙ length-append (entries opening db n) (entry_for opening db n ∷ [])
      ∙ ap (λ (k : ℕ). k + 1) (entries-length n)
      ∙ add-one n
