-- The head of a page. File format, 1.6: a page's header has the kind (1 byte), the first freeblock (2), the number of cells (2),
-- the start of the cell content area (2, 0 meaning 65,536), fragmented bytes (1) and, on interior pages, the right-most
-- pointer (4); the cell pointers, two bytes each, follow it.
use Rattle.std.specs.Prelude.{ℕ, ◌+◌, ◌*◌, List, drop}
use Rattle.fields.specs.Fields.{unsigned}
use Rattle.kinds.specs.declared.Kind.{Kind}
use Rattle.kinds.specs.declared.Kind.TheVariants.{InteriorIndex, InteriorTable, LeafIndex, LeafTable}

abbrev pub head_size : Kind → ℕ
head_size InteriorIndex = 12
head_size InteriorTable = 12
head_size LeafIndex = 8
head_size LeafTable = 8

abbrev pub cells_at : ℕ → List ℕ → ℕ
cells_at from page = unsigned 2 (drop (from + 3) page)

-- where the first pointer stands, and where the pointers end
abbrev pub pointers_at : ℕ → Kind → ℕ
pointers_at from k = from + head_size k

abbrev pub pointers_end : ℕ → Kind → ℕ → ℕ
pointers_end from k cells = pointers_at from k + 2 * cells
