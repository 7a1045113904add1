-- One cell of a page, whole and by itself: what the calls on a cell ask first. The header's checks, the page's, then whether
-- there is such a cell, then the cell with its whole record, and no other cell.
use Rattle.std.specs.Prelude.{ℕ, ◌^◌, List, [], ltb, ℤ, length, Err, Ok, Result}
use Rattle.laws.specs.Pick.{pick}
use Rattle.fields.specs.Fields.{twos}
use Rattle.answers.specs.declared.Fault.{Fault}
use Rattle.answers.specs.declared.Reason.TheVariants as re
use Rattle.answers.specs.declared.Refusal.{Refusal}
use Rattle.answers.specs.declared.Refusal.TheVariants.{InCell}
use Rattle.answers.specs.Answer.{◌>>=◌}
use Rattle.cell.specs.Cell.{Cell, told}
use Rattle.cells.specs.declared.Located as dl
use Rattle.place.specs.declared.Page.{Page}
use Rattle.place.specs.Place.{page_at}
use Rattle.page.specs.declared.Open.{Open}
use Rattle.site.specs.Site.{on_page}
use Rattle.page.specs.Open.{open_of, lies_in}
use Rattle.cells.specs.Pointers.{pointer_at, part_at, cell_at}

-- a cell that is accepted, with its page and its pointer
pub record Located : Type 0 where
  pub opened : Open
  pub pointer : ℕ
  pub cell : Cell

-- a row number or key: 64 bits of two's complement (1.6). The Rust's is unsigned and has five bytes at most, so it is below
-- 2 ^ 35 and the same number (proofs/Laws.antt, `old_row`)
abbrev pub row_number : ℕ → ℤ
row_number v = twos (2 ^ 64) v

-- what is wrong with a cell, told of its page
abbrev pub in_cell : {A : Type 0} → Page → ℕ → Result A Fault → Result A Refusal
in_cell page i (Err fault) = Err (InCell page.number i fault)
in_cell page i (Ok a) = Ok a

-- cell i of an opened page with its bytes
abbrev pub located_from : Open → ℕ → List ℕ → Result Located Refusal
located_from o i page =
    pick (ltb i o.cells)
    (in_cell o.page i (cell_at o (pointer_at o i page) page)
    >>= (λ c. Ok (record { opened = o; pointer = pointer_at o i page; cell = c })))
    (on_page o.page re.NoSuchCell)

-- cell i of an opened page; a page that no call opened is absent where it does not lie in the bytes
unfoldable pub located_in : Open → ℕ → List ℕ → Result Located Refusal
located_in o i db =
    pick (lies_in (length db) o) (located_from o i (page_at o.at o.size db)) (on_page o.page re.PageAbsent)

-- cell i of a page
unfoldable pub located_of : Page → ℕ → List ℕ → Result Located Refusal
located_of page i db = do
  o ← open_of page db
  located_in o i db

-- the part of an opened page that begins at the pointer of cell i; no bytes where there is no such cell
abbrev pub part_in : Open → ℕ → List ℕ → List ℕ
part_in o i db =
    pick (lies_in (length db) o)
    (pick (ltb i o.cells) (part_at o (pointer_at o i (page_at o.at o.size db)) (page_at o.at o.size db)) []) []

-- as the code has it: a cell with its pointer, for a caller who has the page
abbrev pub located_answer : Result Located Refusal → Result dl.Located Refusal
located_answer (Err refusal) = Err refusal
located_answer (Ok l) = Ok (record { pointer = l.pointer; cell = told l.opened.page.reading l.cell })
