-- A cell of a table leaf that the file reading locates, in the old reading: the same pointer, and behind it the same bytes and
-- some more.
use Prim.Native.Nat.{ℕ, ◌-◌, ◌≤◌}
use mathlib.Core.Path.{◌≡◌, refl, sym, subst, ◌∙◌}
use mathlib.Core.List.{List, ◌++◌}
use mathlib.Core.Bool.{false}
use native.Mathlib.Omega.{arith}
use lib.Dec.{ltb, leb}
use lib.ListN.{length, drop, length-drop, take-append-drop}
use lib.Seq.{take_all}
use borrow.Author.Tests.{ltb-false, le-ltb}
use Rattle.laws.proofs.Bools.{neither}
use Rattle.reading.specs.declared.Reading.TheVariants.{Old as old, File as file}
use Rattle.kinds.specs.declared.Kind.TheVariants.{LeafTable}
use Rattle.cell.specs.Cell.{cell_of}
use Rattle.marks.specs.Marks.{mark_of}
use Rattle.marks.proofs.Same.{with_payload, same-cell}
use Rattle.place.specs.declared.Page.{Page}
use Rattle.place.specs.Place.{old_page, file_page, page_at}
use Rattle.place.proofs.Laws.{page-length}
use Rattle.page.specs.declared.Open.{Open}
use Rattle.page.specs.Head.{pointers_end}
use Rattle.page.specs.Open.{open_of}
use Rattle.page.proofs.Opened.{Opened}
use Rattle.page.proofs.Steps.{open-page}
use Rattle.cells.specs.Pointers.{outside, part_at}
use Rattle.cells.specs.Located.{Located, located_in, located_of}
use Rattle.cells.proofs.Laws.{Held, held, held-again, located-open}
use Rattle.agreement.proofs.Pages.{as_old, old-opens}
use Rattle.std.specs.Prelude.{None, Ok}

module _ (n i : ℕ) (db : List ℕ) {o : Open} {l : Located} (opened : open_of (file_page n) db ≡ Ok o) (located : located_in o i db ≡ Ok l)
    (leaf : o.kind ≡ LeafTable) where
  there : Held o i db l
  there = held o i db located

  pub by-file : o.page ≡ file_page n
  by-file = open-page (file_page n) db opened

  old-open : open_of (old_page (n - 1)) db ≡ Ok (as_old n o)
  old-open = old-opens n db opened

  abbrev page : List ℕ
  page = page_at o.at o.size db

  page-is : length page ≡ o.size
  page-is = page-length o.at o.size db there.lies.there

  old-lies : Opened (as_old n o) db
  old-lies =
      record { there = there.lies.there; short = omega arith; pointers = omega (arith, there.lies.pointers, there.lies.short) }

  -- THE POINTER

  behind-pointers : pointers_end o.from o.kind o.cells ≤ l.pointer
  behind-pointers =
      let pointers = pointers_end o.from o.kind o.cells in
      let allowed = subst (λ (p : Page). outside p.reading o l.pointer ≡ false) by-file there.allowed in
      ltb-false l.pointer pointers (neither (ltb l.pointer pointers) (leb o.end l.pointer) allowed).0

  old-within : l.pointer ≤ o.size
  old-within = omega (arith, there.lies.short, there.within)

  old-allowed : outside old (as_old n o) l.pointer ≡ false
  old-allowed = rw (le-ltb o.size l.pointer old-within, le-ltb l.pointer o.from (omega (arith, behind-pointers)))

  -- THE BYTES

  abbrev pub part : List ℕ
  part = part_at o l.pointer page

  abbrev pub more : List ℕ
  more = drop (o.end - l.pointer) (drop l.pointer page)

  part-on : part_at (as_old n o) l.pointer page ≡ part ++ more
  part-on =
      take_all (o.size - l.pointer) (drop l.pointer page) (rw (length-drop, page-is) (omega arith))
      ∙ sym (take-append-drop (o.end - l.pointer) (drop l.pointer page))

  -- THE CELL

  pub file-cell : cell_of file LeafTable o.end part ≡ Ok l.cell
  file-cell =
      let e : cell_of file LeafTable o.end part ≡ cell_of o.page.reading o.kind o.end part = rw (by-file, leaf) in e ∙ there.cell

  old-bytes : cell_of old o.kind o.size (part_at (as_old n o) l.pointer page) ≡ cell_of old LeafTable o.size (part ++ more)
  old-bytes = rw (part-on, leaf)

  -- the cell that the old reading locates, if it does
  pub old-cell : {l' : Located} → located_of (old_page (n - 1)) i db ≡ Ok l' → cell_of old LeafTable o.size (part ++ more) ≡ Ok l'.cell
  old-cell {l'} e =
      let h = held (as_old n o) i db (sym (located-open (old_page (n - 1)) i db old-open) ∙ e) in
      let q : l'.pointer ≡ l.pointer = h.pointer ∙ sym there.pointer in
      sym old-bytes ∙ subst (λ (p : ℕ). cell_of old o.kind o.size (part_at (as_old n o) p page) ≡ Ok l'.cell) q h.cell

  -- where there is no mark: the same cell, with all that stands behind its numbers as its payload
  abbrev pub old_located : Located
  old_located =
      record {
        opened = as_old n o;
        pointer = l.pointer;
        cell = with_payload (length (drop l.cell.numbers.length (part ++ more))) l.cell;
      }

  pub old-shown : mark_of l.cell ≡ None → located_of (old_page (n - 1)) i db ≡ Ok old_located
  old-shown clear =
      located-open (old_page (n - 1)) i db old-open
      ∙ held-again (as_old n o) i db (record {
        lies = old-lies;
        below = there.below;
        opened = refl;
        pointer = there.pointer;
        allowed = old-allowed;
        within = old-within;
        cell = old-bytes ∙ same-cell o.end o.size part more file-cell clear;
      })
