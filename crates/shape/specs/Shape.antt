-- What the pages of a file have in common: their size, where their cells end, how many there are, and how many of them are in
-- the bytes.
--
-- File format, 1.3.7 "In-header database size": "the in-header database size is only considered to be valid if it is non-zero
-- and if the 4-byte change counter at offset 24 exactly matches the 4-byte version-valid-for number at offset 92"; else the
-- size is that of the file. The Rust never looks at it.
use Rattle.std.specs.Prelude.{ℕ, min, ◌/◌, List, Bool, not, ◌&&◌, eqb, length, Err, Ok, Result}
use Rattle.laws.specs.Pick.{pick}
use Rattle.reading.specs.declared.Reading.{Reading}
use Rattle.reading.specs.declared.Reading.TheVariants.{Old as old, File as file}
use Rattle.answers.specs.declared.Flaw.{Flaw}
use Rattle.header.specs.declared.Sizes.{Sizes}
use Rattle.header.specs.Header.{sizes_of}
use Rattle.shape.specs.declared.Shape.{Shape}

-- as many as fit in so many bytes; of pages with no bytes none is counted
abbrev pub whole_pages : ℕ → ℕ → ℕ
whole_pages bytes size = pick (eqb size 0) 0 (bytes / size)

-- whether the size that the header states is valid
abbrev pub stated : Sizes → Bool
stated s = not (eqb s.db_size 0) && eqb s.file_change_counter s.version_valid_for_no

-- how many pages a file has, of which so many fit in the bytes
abbrev pub count_of : Reading → ℕ → Sizes → ℕ
count_of old whole s = whole
count_of file whole s = pick (stated s) s.db_size whole

abbrev pub shape_with : Reading → ℕ → Sizes → Shape
shape_with r whole s =
    record { page_size = s.page_size; end = s.end; pages = count_of r whole s; present = min (count_of r whole s) whole }

abbrev pub shape_by : Reading → ℕ → Result Sizes Flaw → Result Shape Flaw
shape_by r bytes (Err flaw) = Err flaw
shape_by r bytes (Ok s) = Ok (shape_with r (whole_pages bytes s.page_size) s)

unfoldable pub shape_of : Reading → List ℕ → Result Shape Flaw
shape_of r db = shape_by r (length db) (sizes_of r db)
