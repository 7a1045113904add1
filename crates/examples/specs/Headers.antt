-- Headers worked by hand: where each field stands and how wide it is, and what is still accepted.
use Rattle.std.specs.Prelude.{ℕ, ◌≡◌, List, [], ◌∷◌, ◌++◌, map, replicate, Err, Ok, Result}
use Rattle.answers.specs.declared.Flaw.TheVariants as fl
use Rattle.reading.specs.declared.Reading.{Reading}
use Rattle.reading.specs.declared.Reading.TheVariants.{Old as old, File as file}
use Rattle.header.specs.declared.Header.{Header}
use Rattle.header.specs.Header.{opening, header_of}
use Rattle.answers.specs.declared.Flaw.{Flaw}

abbrev pub four : ℕ → List ℕ
four n = 0 ∷ 0 ∷ 0 ∷ n ∷ []

-- the two bytes of the page size, the reserved space and the encoding as given; every other field of four bytes holds the place
-- of its own first byte
unfoldable pub header_bytes : ℕ → ℕ → ℕ → ℕ → List ℕ
header_bytes high low reserved encoding =
    opening ++ (high ∷ low ∷ 1 ∷ 2 ∷ reserved ∷ 64 ∷ 32 ∷ 32 ∷ [])
    ++ four 24 ++ four 28 ++ four 32 ++ four 36 ++ four 40 ++ four 44 ++ four 48 ++ four 52 ++ four encoding
    ++ four 60 ++ four 64 ++ four 68 ++ replicate 20 9 ++ four 92 ++ four 96

abbrev pub fields : ℕ → ℕ → ℕ → Header
fields size reserved encoding =
    record {
      page_size = size;
      write_version = 1;
      read_version = 2;
      reserved_space = reserved;
      max_payload_fraction = 64;
      min_payload_fraction = 32;
      leaf_payload_fraction = 32;
      file_change_counter = 24;
      db_size = 28;
      first_freelist_page_no = 32;
      total_freelist_pages = 36;
      schema_cookie = 40;
      schema_format_no = 44;
      default_page_cache_size = 48;
      no_largest_root_b_tree = 52;
      db_text_encoding = encoding;
      user_version = 60;
      incremental_vacuum_mode = 64;
      application_id = 68;
      version_valid_for_no = 92;
      sqlite_version_number = 96;
    }

-- a header of those bytes, in a reading
pub data Head : Type 0 where
  head : Reading → (high low reserved encoding : ℕ) → Result Header Flaw → Head

unfoldable pub head_again : Head → Head
head_again (head r high low reserved encoding a) = head r high low reserved encoding (header_of r (header_bytes high low reserved encoding))

abbrev pub heads : List Head
heads =
    -- the old reading drops the reserved space
    head old 2 0 7 3 (Ok (fields 512 0 3))
    ∷ head file 2 0 7 3 (Ok (fields 512 7 3))
    ∷ head file 16 0 0 1 (Ok (fields 4096 0 1))
    -- a size of 1 means 65,536
    ∷ head old 0 1 0 2 (Ok (fields 65536 0 2))
    ∷ head file 0 1 0 2 (Ok (fields 65536 0 2))
    -- no power of two, and one that is too small
    ∷ head old 2 1 0 1 (Ok (fields 513 0 1))
    ∷ head file 2 1 0 1 (Err fl.PageSizeUnfit)
    ∷ head file 1 0 0 1 (Err fl.PageSizeUnfit)
    -- 480 bytes are used at least
    ∷ head file 2 0 32 1 (Ok (fields 512 32 1))
    ∷ head file 2 0 33 1 (Err fl.UsableTooSmall)
    -- the encodings are 1, 2 and 3
    ∷ head old 2 0 0 0 (Err fl.EncodingUnknown)
    ∷ head old 2 0 0 4 (Err fl.EncodingUnknown)
    ∷ []

abbrev pub HeadersWorked : Type 0
HeadersWorked = map head_again heads ≡ heads
