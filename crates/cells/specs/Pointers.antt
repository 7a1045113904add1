-- A pointer of an opened page, the part of the page that begins there, and the cell in it. Row 12 of docs/READINGS.md, and
-- those of the cell.
use Rattle.std.specs.Prelude.{ℕ, ◌+◌, ◌-◌, ◌*◌, ◌≤◌, List, Bool, ◌||◌, ltb, leb, length, take, drop, Err, Result}
use Rattle.laws.specs.Pick.{pick}
use Rattle.fields.specs.Fields.{unsigned}
use Rattle.reading.specs.declared.Reading.{Reading}
use Rattle.reading.specs.declared.Reading.TheVariants.{Old as old, File as file}
use Rattle.answers.specs.declared.Fault.{Fault}
use Rattle.answers.specs.declared.Fault.TheVariants as fa
use Rattle.cell.specs.Cell.{Cell, cell_of}
use Rattle.page.specs.declared.Open.{Open}
use Rattle.page.specs.Head.{pointers_at, pointers_end}

-- pointer i counts from the page's first byte, also on the first page
abbrev pub pointer_at : Open → ℕ → List ℕ → ℕ
pointer_at o i page = unsigned 2 (drop (pointers_at o.from o.kind + 2 * i) page)

-- the Rust lets a cell overlap the page's header and begin at the page's end; the file reading wants it between the
-- pointers and U
abbrev pub outside : Reading → Open → ℕ → Bool
outside old o p = ltb o.end p || ltb p o.from
outside file o p = ltb p (pointers_end o.from o.kind o.cells) || leb o.end p

-- the part of the page that begins at the cell's pointer
abbrev pub part_at : Open → ℕ → List ℕ → List ℕ
part_at o p page = take (o.end - p) (drop p page)

-- the cell that a pointer names
unfoldable pub cell_at : Open → ℕ → List ℕ → Result Cell Fault
cell_at o p page =
    pick (outside o.page.reading o p) (Err fa.PointerOutside)
    (cell_of o.page.reading o.kind o.end (part_at o p page))

-- a page with its bytes: what the readers of its cells count on
pub record Fitting (o : Open) (page : List ℕ) : Type 0 where
  pub pointers : pointers_end o.from o.kind o.cells ≤ o.end
  pub within : o.end ≤ length page
