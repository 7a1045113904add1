-- The numbers alone of one cell of a page: child, payload size, row number or key. What is behind them is not looked at.
use Rattle.std.specs.Prelude.{ℕ, List, ltb, length, Err, Result}
use Rattle.laws.specs.Pick.{pick}
use Rattle.answers.specs.declared.Fault.{Fault}
use Rattle.answers.specs.declared.Fault.TheVariants as fa
use Rattle.answers.specs.declared.Reason.TheVariants as re
use Rattle.answers.specs.declared.Refusal.{Refusal}
use Rattle.cell.specs.declared.Numbers.{Numbers}
use Rattle.cell.specs.Numbers.{numbers_of}
use Rattle.place.specs.Place.{page_at}
use Rattle.page.specs.declared.Open.{Open}
use Rattle.site.specs.Site.{on_page}
use Rattle.page.specs.Open.{lies_in}
use Rattle.cells.specs.Pointers.{pointer_at, outside, part_at}
use Rattle.cells.specs.Located.{in_cell}

-- the numbers of the cell that a pointer names
unfoldable pub numbers_at : Open → ℕ → List ℕ → Result Numbers Fault
numbers_at o p page =
    pick (outside o.page.reading o p) (Err fa.PointerOutside)
    (numbers_of o.page.reading o.kind (part_at o p page))

-- of cell i of an opened page with its bytes
abbrev pub numbers_from : Open → ℕ → List ℕ → Result Numbers Refusal
numbers_from o i page =
    pick (ltb i o.cells) (in_cell o.page i (numbers_at o (pointer_at o i page) page)) (on_page o.page re.NoSuchCell)

-- of cell i of an opened page; a page that no call opened is absent where it does not lie in the bytes
unfoldable pub numbers_in : Open → ℕ → List ℕ → Result Numbers Refusal
numbers_in o i db =
    pick (lies_in (length db) o) (numbers_from o i (page_at o.at o.size db)) (on_page o.page re.PageAbsent)
