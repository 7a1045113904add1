-- The head of a page. File format, 1.6: behind the kind stand the first freeblock (2 bytes), the number of cells (2), the start
-- of the cell content area (2, 0 meaning 65,536), fragmented bytes (1) and, on interior pages, the right-most pointer (4).
use Rattle.std.specs.Prelude.{ℕ, List, eqb, drop, get_or}
use Rattle.laws.specs.Pick.{pick}
use Rattle.fields.specs.Fields.{unsigned}
use Rattle.kinds.specs.Kind.{kind_byte}
use Rattle.page.specs.declared.Open.{Open}
use Rattle.page.specs.Open.{rightmost_of}
use Rattle.table.specs.declared.Head.{Head}

-- the start of the cell content area: 0 means 65,536
abbrev pub content_start_of : ℕ → ℕ
content_start_of n = pick (eqb n 0) 65536 n

-- from the bytes of the page's header on
unfoldable pub head_of : Open → List ℕ → Head
head_of o header =
    record {
      kind = kind_byte o.kind;
      first_freeblock = unsigned 2 (drop 1 header);
      cells = o.cells;
      content_start = content_start_of (unsigned 2 (drop 5 header));
      fragmented = get_or header 7 0;
      rightmost = rightmost_of o header;
    }
