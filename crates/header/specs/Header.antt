-- The database header: file format, 1.3 "The Database Header", and the Rust's `db_header`.
--
-- The checks are the rows of docs/READINGS.md for a whole database, in their order. The old reading makes the first four;
-- it takes any page size and drops the reserved space.
use Rattle.std.specs.Prelude.{ℕ, ◌-◌, List, [], ◌∷◌, ◌++◌, Bool, true, false, not, ◌||◌, ◌&&◌, ltb, eqb, length, take, drop, get_or, Err, Ok, Result, ⊤}
use Rattle.laws.specs.Pick.{pick}
use Rattle.tables.specs.Tables.{field_at, field_width}
use Rattle.fields.specs.Fields.{unsigned}
use Rattle.reading.specs.declared.Reading.{Reading}
use Rattle.reading.specs.declared.Reading.TheVariants.{Old as old, File as file}
use Rattle.answers.specs.declared.Flaw.TheVariants as fl
use Rattle.answers.specs.Checks.{Check, check, first}
use Rattle.header.specs.declared.Header.{Header}
use Rattle.header.specs.declared.Sizes.{Sizes}
use Rattle.answers.specs.declared.Flaw.{Flaw}

-- FIELDS

-- field i of the table
unfoldable pub field_of : ℕ → List ℕ → ℕ
field_of i db = unsigned (get_or field_width i 0) (drop (get_or field_at i 0) db)

-- 1.3.2: a field of 1 means 65,536
unfoldable pub page_size_of : List ℕ → ℕ
page_size_of db = pick (eqb (field_of 0 db) 1) 65536 (field_of 0 db)

-- 1.3.4: the bytes of a page less the reserved space: U
unfoldable pub usable : List ℕ → ℕ
usable db = page_size_of db - field_of 3 db

-- where the cells of a page end
abbrev pub end : Reading → List ℕ → ℕ
end old db = page_size_of db
end file db = usable db

-- CHECKS

-- the same bytes
abbrev pub alike : List ℕ → List ℕ → Bool
alike [] [] = true
alike [] (y ∷ ys) = false
alike (x ∷ xs) [] = false
alike (x ∷ xs) (y ∷ ys) = eqb x y && alike xs ys

abbrev pub among : ℕ → List ℕ → Bool
among x [] = false
among x (y ∷ ys) = eqb x y || among x ys

-- `SQLite format 3` and a zero
abbrev pub opening : List ℕ
opening =
    0x53 ∷ 0x51 ∷ 0x4c ∷ 0x69 ∷ 0x74 ∷ 0x65 ∷ 0x20 ∷ 0x66 ∷ 0x6f ∷ 0x72 ∷ 0x6d ∷ 0x61 ∷ 0x74 ∷ 0x20 ∷ 0x33 ∷ 0x00 ∷ []

-- a page size as its field has it: 1, or a power of two from 512 to 32,768
abbrev pub sizes : List ℕ
sizes = 1 ∷ 512 ∷ 1024 ∷ 2048 ∷ 4096 ∷ 8192 ∷ 16384 ∷ 32768 ∷ []

abbrev pub both_checks : List ℕ → List Check
both_checks db =
    check fl.OverLimit (ltb 1073741824 (length db))
    ∷ check fl.OpeningDiffers (not (alike (take 16 db) opening))
    ∷ check fl.HeaderCut (ltb (length db) 100)
    ∷ check fl.EncodingUnknown (not (among (field_of 15 db) (1 ∷ 2 ∷ 3 ∷ [])))
    ∷ []

abbrev pub file_checks : List ℕ → List Check
file_checks db =
    check fl.PageSizeUnfit (not (among (field_of 0 db) sizes))
    ∷ check fl.UsableTooSmall (ltb (usable db) 480)
    ∷ check fl.ReadVersionAbove (ltb 2 (field_of 2 db))
    ∷ check fl.FractionsDiffer (not (eqb (field_of 4 db) 64 && (eqb (field_of 5 db) 32 && eqb (field_of 6 db) 32)))
    ∷ []

abbrev pub header_checks : Reading → List ℕ → List Check
header_checks old db = both_checks db
header_checks file db = both_checks db ++ file_checks db

unfoldable pub checked_of : Reading → List ℕ → Result ⊤ Flaw
checked_of r db = first (header_checks r db)

-- ANSWERS

-- the reserved space is shown in the file reading alone
abbrev pub reserved_in : Reading → List ℕ → ℕ
reserved_in old db = 0
reserved_in file db = field_of 3 db

unfoldable pub fields_in : Reading → List ℕ → Header
fields_in r db =
    record {
      page_size = page_size_of db;
      write_version = field_of 1 db;
      read_version = field_of 2 db;
      reserved_space = reserved_in r db;
      max_payload_fraction = field_of 4 db;
      min_payload_fraction = field_of 5 db;
      leaf_payload_fraction = field_of 6 db;
      file_change_counter = field_of 7 db;
      db_size = field_of 8 db;
      first_freelist_page_no = field_of 9 db;
      total_freelist_pages = field_of 10 db;
      schema_cookie = field_of 11 db;
      schema_format_no = field_of 12 db;
      default_page_cache_size = field_of 13 db;
      no_largest_root_b_tree = field_of 14 db;
      db_text_encoding = field_of 15 db;
      user_version = field_of 16 db;
      incremental_vacuum_mode = field_of 17 db;
      application_id = field_of 18 db;
      version_valid_for_no = field_of 19 db;
      sqlite_version_number = field_of 20 db;
    }

abbrev pub header_by : Header → Result ⊤ Flaw → Result Header Flaw
header_by h (Ok tt) = Ok h
header_by h (Err flaw) = Err flaw

unfoldable pub header_of : Reading → List ℕ → Result Header Flaw
header_of r db = header_by (fields_in r db) (checked_of r db)

abbrev pub sizes_in : Reading → List ℕ → Sizes
sizes_in r db =
    record {
      page_size = page_size_of db;
      end = end r db;
      db_size = field_of 8 db;
      file_change_counter = field_of 7 db;
      version_valid_for_no = field_of 19 db;
    }

abbrev pub sizes_by : Sizes → Result ⊤ Flaw → Result Sizes Flaw
sizes_by s (Ok tt) = Ok s
sizes_by s (Err flaw) = Err flaw

unfoldable pub sizes_of : Reading → List ℕ → Result Sizes Flaw
sizes_of r db = sizes_by (sizes_in r db) (checked_of r db)
