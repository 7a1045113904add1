-- What callers cite of located cells: what is so of one, taken apart and put together again, and what answers keep of it.
use Prim.Native.Nat.{ℕ, ◌-◌, ◌≤◌, ◌<◌}
use mathlib.Core.Path.{◌≡◌, refl, sym}
use mathlib.Core.List.{List}
use mathlib.Core.Bool.{Bool, true, false}
use native.Mathlib.Omega.{arith}
use lib.Dec.{ltb, leb}
use lib.IntN.{pos}
use lib.ListN.{length, drop, length-drop}
use lib.Seq.{length-take-le}
use borrow.Author.Tests.{ltb-true, ltb-false, leb-false, lt-ltb}
use Rattle.laws.specs.Pick.{pick}
use Rattle.laws.proofs.Never.{never}
use Rattle.laws.proofs.Bools.{neither}
use Rattle.fields.proofs.Twos.{lower}
use Rattle.varint.specs.declared.Number.{Number}
use Rattle.varint.specs.Varint.{varint_of}
use Rattle.varint.proofs.Laws.{value-below}
use Rattle.reading.specs.declared.Reading.{Reading}
use Rattle.reading.specs.declared.Reading.TheVariants.{Old as old, File as file}
use Rattle.answers.specs.declared.Fault.{Fault}
use Rattle.answers.specs.declared.Fault.TheVariants as fa
use Rattle.answers.specs.declared.Reason.TheVariants as re
use Rattle.answers.specs.declared.Refusal.{Refusal}
use Rattle.answers.specs.declared.Refusal.TheVariants.{InCell}
use Rattle.answers.specs.Answer.{◌>>=◌}
use Rattle.cell.specs.declared.Cell as dc
use Rattle.cell.specs.Cell.{Cell, told, cell_of, answer_of}
use Rattle.place.specs.declared.Page.{Page}
use Rattle.place.specs.Place.{page_at}
use Rattle.place.proofs.Laws.{page-length}
use Rattle.page.specs.declared.Open.{Open}
use Rattle.page.specs.Head.{pointers_end}
use Rattle.site.specs.Site.{on_page}
use Rattle.page.specs.Open.{open_of, lies_in}
use Rattle.page.proofs.Opened.{Opened, lies-opened, opened-lies}
use Rattle.page.proofs.Steps.{open-page}
use Rattle.cells.specs.declared.Located as dl
use Rattle.cells.specs.Pointers.{pointer_at, outside, part_at, cell_at, Fitting}
use Rattle.cells.specs.Located.{Located, row_number, in_cell, located_from, located_in, located_of, located_answer}
use Rattle.std.specs.Prelude.{Err, Ok, Result}

-- PARTS

-- a pointer that is not outside is at most the end
pub inside : (r : Reading) (o : Open) (p : ℕ) → outside r o p ≡ false → p ≤ o.end
inside old o p e = ltb-false o.end p (neither (ltb o.end p) (ltb p o.from) e).0
inside file o p e =
    let l = leb-false o.end p (neither (ltb p (pointers_end o.from o.kind o.cells)) (leb o.end p) e).1 in
    omega arith

module _ (o : Open) (db : List ℕ) (is : Opened o db) where
  pub fitting : Fitting o (page_at o.at o.size db)
  fitting = record { pointers = is.pointers; within = rw (page-length o.at o.size db is.there) is.short }

  -- the part of the page that begins at p runs up to its end
  pub part_length : (p : ℕ) → length (part_at o p (page_at o.at o.size db)) ≡ o.end - p
  part_length p =
      length-take-le (o.end - p) (drop p (page_at o.at o.size db))
      (rw (length-drop, page-length o.at o.size db is.there) (omega (arith, is.short)))

-- a row number that the Rust reads, of five bytes at most, is itself as two's complement
pub old_row : (s : List ℕ) {n : Number} → varint_of 5 s ≡ Ok n → row_number n.value ≡ pos n.value
old_row s {n} e = let l = value-below s 5 (omega arith) e in lower 0x8000_0000_0000_0000 n.value (omega arith)

-- A LOCATED CELL

pub record Held (o : Open) (i : ℕ) (db : List ℕ) (l : Located) : Type 0 where
  pub lies : Opened o db
  pub below : i < o.cells
  pub opened : l.opened ≡ o
  pub pointer : l.pointer ≡ pointer_at o i (page_at o.at o.size db)
  pub allowed : outside o.page.reading o l.pointer ≡ false
  pub within : l.pointer ≤ o.end
  pub cell : cell_of o.page.reading o.kind o.end (part_at o l.pointer (page_at o.at o.size db)) ≡ Ok l.cell

module _ (o : Open) (i : ℕ) (db : List ℕ) where
  abbrev page : List ℕ
  page = page_at o.at o.size db

  abbrev p : ℕ
  p = pointer_at o i page

  module _ {l : Located} where
    by-cell : Opened o db → i < o.cells → outside o.page.reading o p ≡ false
        → (a : Result Cell Fault) → cell_of o.page.reading o.kind o.end (part_at o p page) ≡ a
        → (in_cell o.page i a >>= (λ c. Ok (record { opened = o; pointer = p; cell = c }))) ≡ Ok l → Held o i db l
    by-cell is b t (Err fault) q e = never cc
    by-cell is b t (Ok c) q e =
        let f : l ≡ record { opened = o; pointer = p; cell = c } = cc in
        rw f (record { lies = is; below = b; opened = refl; pointer = refl; allowed = t; within = inside o.page.reading o p t; cell = q })

    by-pointer : Opened o db → i < o.cells → (b : Bool) → outside o.page.reading o p ≡ b
        → (in_cell o.page i (pick b (Err fa.PointerOutside) (cell_of o.page.reading o.kind o.end (part_at o p page)))
        >>= (λ c. Ok (record { opened = o; pointer = p; cell = c }))) ≡ Ok l → Held o i db l
    by-pointer is b true t e = never cc
    by-pointer is b false t e = by-cell is b t (cell_of o.page.reading o.kind o.end (part_at o p page)) refl e

    by_count : Opened o db → (b : Bool) → ltb i o.cells ≡ b
        → pick b (in_cell o.page i (cell_at o p page) >>= (λ c. Ok (record { opened = o; pointer = p; cell = c }))) (on_page o.page re.NoSuchCell) ≡ Ok l
        → Held o i db l
    unfolding cell_at
    by_count is false t e = never cc
    by_count is true t e = by-pointer is (ltb-true i o.cells t) (outside o.page.reading o p) refl e

    pub held : located_in o i db ≡ Ok l → Held o i db l
    unfolding located_in
    held e = go (lies_in (length db) o) refl e
      where
        go : (b : Bool) → lies_in (length db) o ≡ b → pick b (located_from o i page) (on_page o.page re.PageAbsent) ≡ Ok l → Held o i db l
        go false t d = never cc
        go true t d = by_count (lies-opened o db t) (ltb i o.cells) refl d

    pub held-again : Held o i db l → located_in o i db ≡ Ok l
    unfolding located_in cell_at
    held-again h =
        let q : pointer_at o i page ≡ l.pointer = sym h.pointer in
        rw (opened-lies o db h.lies, lt-ltb i o.cells h.below, q, h.allowed, h.cell, sym h.opened)

-- of a page that is opened first
pub record Steps (page : Page) (i : ℕ) (db : List ℕ) (l : Located) : Type 0 where
  pub o : Open
  pub first : open_of page db ≡ Ok o
  pub second : located_in o i db ≡ Ok l

module _ (page : Page) (i : ℕ) (db : List ℕ) where
  pub located-open : {o : Open} → open_of page db ≡ Ok o → located_of page i db ≡ located_in o i db
  unfolding located_of
  located-open e = rw e

  pub located-unopened : {refusal : Refusal} → open_of page db ≡ Err refusal → located_of page i db ≡ Err refusal
  unfolding located_of
  located-unopened e = rw e

  pub steps : {l : Located} → located_of page i db ≡ Ok l → Steps page i db l
  unfolding located_of
  steps {l} e = go (open_of page db) refl e
    where
      go : (x : Result Open Refusal) → open_of page db ≡ x → (x >>= (λ o. located_in o i db)) ≡ Ok l → Steps page i db l
      go (Err refusal) q d = never cc
      go (Ok o) q d = record { o = o; first = q; second = d }

  -- it is on the page that was asked for
  pub located-page : {l : Located} → located_of page i db ≡ Ok l → l.opened.page ≡ page
  located-page e = let s = steps e in rw (held s.o i db s.second).opened (open-page page db s.first)

-- ANSWERS

-- what the code makes of the cell at a pointer
abbrev pub located_by : Open → ℕ → ℕ → Result dc.Cell Fault → Result dl.Located Refusal
located_by o i p (Err fault) = Err (InCell o.page.number i fault)
located_by o i p (Ok c) = Ok (record { pointer = p; cell = c })

pub located-by : (o : Open) (i p : ℕ) (x : Result Cell Fault)
    → located_answer (in_cell o.page i x >>= (λ c. Ok (record { opened = o; pointer = p; cell = c }))) ≡ located_by o i p (answer_of o.page.reading x)
located-by o i p (Err fault) = refl
located-by o i p (Ok c) = refl

-- a located cell as the code has it
abbrev pub told_of : Located → dl.Located
told_of l = record { pointer = l.pointer; cell = told l.opened.page.reading l.cell }

pub record Kept (x : Result Located Refusal) (c : dl.Located) : Type 0 where
  pub l : Located
  pub is : x ≡ Ok l
  pub same : told_of l ≡ c

pub kept : (x : Result Located Refusal) {c : dl.Located} → located_answer x ≡ Ok c → Kept x c
kept (Err refusal) e = never cc
kept (Ok l) e = record { l = l; is = refl; same = cc }

pub located-unanswered : (x : Result Located Refusal) {refusal : Refusal} → located_answer x ≡ Err refusal → x ≡ Err refusal
located-unanswered (Err other) e = cc
located-unanswered (Ok l) e = never cc
