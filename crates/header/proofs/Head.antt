-- The header is the first hundred bytes: what they say is what the database says.
use Prim.Native.Nat.{ℕ, ◌<◌}
use mathlib.Core.Path.{◌≡◌, refl}
use mathlib.Core.List.{List}
use lib.Dec.{lit<}
use lib.ListN.{take, get_or}
use Rattle.laws.proofs.Parts.{part}
use Rattle.tables.specs.Tables.{field_at, field_width}
use Rattle.reading.specs.declared.Reading.{Reading}
use Rattle.reading.specs.declared.Reading.TheVariants.{Old as old, File as file}
use Rattle.header.specs.Header.{field_of, page_size_of, usable, end, file_checks, reserved_in, fields_in, sizes_in}
use Rattle.header.proofs.Steps.{within}

module _ (db : List ℕ) where
  pub field-head : (i : ℕ) → i < 21 → field_of i (take 100 db) ≡ field_of i db
  unfolding field_of
  field-head i h = rw (part (get_or field_width i 0) (get_or field_at i 0) 100 db (within i h).1)

  page-size-head : page_size_of (take 100 db) ≡ page_size_of db
  unfolding page_size_of
  page-size-head = rw (field-head 0 (lit< tt))

  usable-head : usable (take 100 db) ≡ usable db
  unfolding usable
  usable-head = rw (page-size-head, field-head 3 (lit< tt))

  end-head : (r : Reading) → end r (take 100 db) ≡ end r db
  end-head old = page-size-head
  end-head file = usable-head

  reserved-head : (r : Reading) → reserved_in r (take 100 db) ≡ reserved_in r db
  reserved-head old = refl
  reserved-head file = field-head 3 (lit< tt)

  pub checks-head : file_checks (take 100 db) ≡ file_checks db
  checks-head = rw (field-head 0 (lit< tt), usable-head, field-head 2 (lit< tt), field-head 4 (lit< tt), field-head 5 (lit< tt), field-head 6 (lit< tt))

  pub sizes-head : (r : Reading) → sizes_in r (take 100 db) ≡ sizes_in r db
  sizes-head r = rw (page-size-head, end-head r, field-head 8 (lit< tt), field-head 7 (lit< tt), field-head 19 (lit< tt))

  pub fields-head : (r : Reading) → fields_in r (take 100 db) ≡ fields_in r db
  unfolding fields_in
  fields-head r =
      λ i. record {
        page_size = page-size-head i;
        write_version = field-head 1 (lit< tt) i;
        read_version = field-head 2 (lit< tt) i;
        reserved_space = reserved-head r i;
        max_payload_fraction = field-head 4 (lit< tt) i;
        min_payload_fraction = field-head 5 (lit< tt) i;
        leaf_payload_fraction = field-head 6 (lit< tt) i;
        file_change_counter = field-head 7 (lit< tt) i;
        db_size = field-head 8 (lit< tt) i;
        first_freelist_page_no = field-head 9 (lit< tt) i;
        total_freelist_pages = field-head 10 (lit< tt) i;
        schema_cookie = field-head 11 (lit< tt) i;
        schema_format_no = field-head 12 (lit< tt) i;
        default_page_cache_size = field-head 13 (lit< tt) i;
        no_largest_root_b_tree = field-head 14 (lit< tt) i;
        db_text_encoding = field-head 15 (lit< tt) i;
        user_version = field-head 16 (lit< tt) i;
        incremental_vacuum_mode = field-head 17 (lit< tt) i;
        application_id = field-head 18 (lit< tt) i;
        version_valid_for_no = field-head 19 (lit< tt) i;
        sqlite_version_number = field-head 20 (lit< tt) i;
      }
