-- The four kinds of b-tree page, and what a cell of each has. File format, 1.6 "B-tree Pages":
--
--   kind                child   payload size   row number or key   record
--    2 interior index     x          x                               x
--    5 interior table     x                             x
--   10 leaf index                    x                               x
--   13 leaf table                    x                  x            x
use Rattle.std.specs.Prelude.{◌≡◌, ◌≢◌, ℕ, ◌-◌, ◌*◌, ◌/◌, Bool, true, false, Result, MatchResult}
use Rattle.laws.specs.Pick.{pick}
use Rattle.reading.specs.declared.Reading.{Reading}
use Rattle.reading.specs.declared.Reading.TheVariants.{Old as old, File as file}
use Rattle.kinds.specs.declared.Kind.{Kind}
use Rattle.kinds.specs.declared.Kind.TheVariants.{InteriorIndex, InteriorTable, LeafIndex, LeafTable}
use Rattle.kinds.specs.declared.NoKind.{NoKind}

abbrev pub kind_byte : Kind → ℕ
kind_byte InteriorIndex = 2
kind_byte InteriorTable = 5
kind_byte LeafIndex = 10
kind_byte LeafTable = 13

-- the kind whose byte this is, or an error at a byte of no kind
abbrev pub Names : ℕ → Result Kind NoKind → Type 0
Names byte r = MatchResult r (λ kind. kind_byte kind ≡ byte) (λ e. (kind : Kind) → kind_byte kind ≢ byte)

abbrev pub interior : Kind → Bool
interior InteriorIndex = true
interior InteriorTable = true
interior LeafIndex = false
interior LeafTable = false

-- the one kind that has rows
abbrev pub is_leaf_table : Kind → Bool
is_leaf_table InteriorIndex = false
is_leaf_table InteriorTable = false
is_leaf_table LeafIndex = false
is_leaf_table LeafTable = true

abbrev pub has_size : Kind → Bool
has_size InteriorIndex = true
has_size InteriorTable = false
has_size LeafIndex = true
has_size LeafTable = true

abbrev pub has_row : Kind → Bool
has_row InteriorIndex = false
has_row InteriorTable = true
has_row LeafIndex = false
has_row LeafTable = true

-- whether a record is followed by one more varint, which the Rust keeps as an index cell's row number
abbrev pub has_closing : Reading → Kind → Bool
has_closing old InteriorIndex = true
has_closing old InteriorTable = false
has_closing old LeafIndex = true
has_closing old LeafTable = false
has_closing file k = false

-- how many bytes a child takes
abbrev pub child_bytes : Kind → ℕ
child_bytes k = pick (interior k) 4 0

-- X: the largest payload that lies whole on a page of u usable bytes. File format, 1.6: "If the page type is a table leaf
-- page then X is U-35. If the page is an index page then X is ((U-12)*64/255)-23."
abbrev pub most_whole : Kind → ℕ → ℕ
most_whole InteriorIndex u = (u - 12) * 64 / 255 - 23
most_whole InteriorTable u = 0
most_whole LeafIndex u = (u - 12) * 64 / 255 - 23
most_whole LeafTable u = u - 35
