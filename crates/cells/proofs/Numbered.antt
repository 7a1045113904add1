-- What callers cite of the numbers alone: they are the cell's, they are refused as the cell is, and by them it is known whether
-- the cell is refused with 18.
use Prim.Native.Nat.{ℕ}
use mathlib.Core.Path.{◌≡◌, refl, sym, ap, ◌∙◌}
use mathlib.Core.List.{List}
use mathlib.Core.Bool.{Bool, true, false}
use lib.Dec.{ltb}
use lib.ListN.{length}
use borrow.Author.Tests.{lt-ltb}
use Rattle.laws.proofs.Never.{never}
use Rattle.answers.specs.declared.Fault.{Fault}
use Rattle.answers.specs.declared.Fault.TheVariants as fa
use Rattle.answers.specs.declared.Reason.TheVariants as re
use Rattle.answers.specs.declared.Refusal.{Refusal}
use Rattle.answers.specs.declared.Refusal.TheVariants.{OnPage, InCell}
use Rattle.answers.specs.Answer.{◌>>=◌}
use Rattle.kinds.specs.Kind.{has_size, most_whole}
use Rattle.cell.specs.declared.Numbers.{Numbers}
use Rattle.cell.specs.Numbers.{numbers_of}
use Rattle.cell.specs.Cell.{Cell, cell_of}
use Rattle.cell.proofs.Inside as cell
use Rattle.cell.proofs.Spills.{Over, unnumbered, cell-spills, spills-cell}
use Rattle.place.specs.Place.{page_at}
use Rattle.page.specs.declared.Open.{Open}
use Rattle.page.specs.Open.{lies_in}
use Rattle.page.proofs.Opened.{opened-lies}
use Rattle.cells.specs.Pointers.{pointer_at, outside, part_at, cell_at}
use Rattle.cells.specs.Located.{Located, in_cell, located_in}
use Rattle.cells.specs.Numbered.{numbers_at, numbers_in}
use Rattle.cells.proofs.Laws.{held}
use Rattle.std.specs.Prelude.{Err, Ok, Result}

module _ (o : Open) (i : ℕ) (db : List ℕ) where
  abbrev page : List ℕ
  page = page_at o.at o.size db

  abbrev p : ℕ
  p = pointer_at o i page

  abbrev numbers : Result Numbers Fault
  numbers = numbers_of o.page.reading o.kind (part_at o p page)

  abbrev cell_there : Result Cell Fault
  cell_there = cell_of o.page.reading o.kind o.end (part_at o p page)

  abbrev located : Cell → Result Located Refusal
  located c = Ok (record { opened = o; pointer = p; cell = c })

  -- both come to the part that begins at the pointer, or are refused alike before it
  data Reach : Type 0 where
    before : (refusal : Refusal) → ((number cell : ℕ) → refusal ≡ InCell number cell fa.PayloadSpills → ⊥)
        → located_in o i db ≡ Err refusal → numbers_in o i db ≡ Err refusal → Reach
    there : located_in o i db ≡ (in_cell o.page i cell_there >>= located) → numbers_in o i db ≡ in_cell o.page i numbers → Reach

  reach : Reach
  unfolding located_in numbers_in cell_at numbers_at
  reach = by_place (lies_in (length db) o) refl
    where
      by-pointer : lies_in (length db) o ≡ true → ltb i o.cells ≡ true → (b : Bool) → outside o.page.reading o p ≡ b → Reach
      by-pointer l h true t = before (InCell o.page.number i fa.PointerOutside) (λ n c e. never cc) (rw (l, h, t)) (rw (l, h, t))
      by-pointer l h false t = there (rw (l, h, t)) (rw (l, h, t))

      by_count : lies_in (length db) o ≡ true → (b : Bool) → ltb i o.cells ≡ b → Reach
      by_count l false h = before (OnPage o.page.number re.NoSuchCell) (λ n c e. never cc) (rw (l, h)) (rw (l, h))
      by_count l true h = by-pointer l h (outside o.page.reading o p) refl

      by_place : (b : Bool) → lies_in (length db) o ≡ b → Reach
      by_place false l = before (OnPage o.page.number re.PageAbsent) (λ n c e. never cc) (rw l) (rw l)
      by_place true l = by_count l (ltb i o.cells) refl

  -- the numbers of a located cell
  pub numbers-located : {l : Located} → located_in o i db ≡ Ok l → numbers_in o i db ≡ Ok l.cell.numbers
  unfolding numbers_in numbers_at
  numbers-located {l} e =
      let h = held o i db e in
      let q : pointer_at o i page ≡ l.pointer = sym h.pointer in
      let n = (cell.inside o.page.reading o.kind o.end (part_at o l.pointer page) h.cell).numbers in
      rw (opened-lies o db h.lies, lt-ltb i o.cells h.below, q, h.allowed, n)

  -- a cell whose numbers are refused
  pub numbers-refused : {refusal : Refusal} → numbers_in o i db ≡ Err refusal → located_in o i db ≡ Err refusal
  numbers-refused {refusal} e = by-reach reach
    where
      by-numbers : (x : Result Numbers Fault) → numbers ≡ x → in_cell o.page i x ≡ Err refusal → (in_cell o.page i cell_there >>= located) ≡ Err refusal
      by-numbers (Err fault) q d = rw (unnumbered o.page.reading o.kind o.end (part_at o p page) q) cc
      by-numbers (Ok n) q d = never cc

      by-reach : Reach → located_in o i db ≡ Err refusal
      by-reach (before other own l n) = let f : other ≡ refusal = cc in l ∙ ap Err f
      by-reach (there l n) = l ∙ by-numbers numbers refl (sym n ∙ e)

  -- the numbers of a cell that is refused with 18
  pub record Spills : Type 0 where
    pub numbers : Numbers
    pub read : numbers_in o i db ≡ Ok numbers
    pub sized : has_size o.kind ≡ true
    pub over : Over o.page.reading (most_whole o.kind o.end) numbers.size.value

  pub spills-located : Spills → located_in o i db ≡ Err (InCell o.page.number i fa.PayloadSpills)
  spills-located s = by-reach reach
    where
      by-numbers : (x : Result Numbers Fault) → numbers ≡ x → in_cell o.page i x ≡ Ok s.numbers → numbers ≡ Ok s.numbers
      by-numbers (Err fault) q d = never cc
      by-numbers (Ok n) q d = cc

      by-reach : Reach → located_in o i db ≡ Err (InCell o.page.number i fa.PayloadSpills)
      by-reach (before other own l n) = never cc
      by-reach (there l n) =
          let q = by-numbers numbers refl (sym n ∙ s.read) in
          l ∙ rw (cell-spills o.page.reading o.kind o.end (part_at o p page) (record { numbers = s.numbers; read = q; sized = s.sized; over = s.over }))

  pub located-spills : {number cell : ℕ} → located_in o i db ≡ Err (InCell number cell fa.PayloadSpills) → Spills
  located-spills {number} {cell} e = by-reach reach
    where
      by-cell : (x : Result Cell Fault) → cell_there ≡ x → (in_cell o.page i x >>= located) ≡ Err (InCell number cell fa.PayloadSpills) → cell_there ≡ Err fa.PayloadSpills
      by-cell (Err fault) q d = cc
      by-cell (Ok c) q d = never cc

      by-reach : Reach → Spills
      by-reach (before other own l n) = absurd (own number cell cc)
      by-reach (there l n) =
          let s = spills-cell o.page.reading o.kind o.end (part_at o p page) (by-cell cell_there refl (sym l ∙ e)) in
          record { numbers = s.numbers; read = n ∙ ap (in_cell o.page i) s.read; sized = s.sized; over = s.over }
