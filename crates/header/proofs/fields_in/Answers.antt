-- Each field is what its call answers.
use Rattle.header.specs.Header.{fields_in}
use Rattle.header.proofs.fields_in.Goals as goal

pub returns : goal.returns
unfolding fields_in
returns c =
    λ i. record {
      page_size = c.page_size.ensures i;
      write_version = c.field.ensures i;
      read_version = c.field-2.ensures i;
      reserved_space = c.reserved_in.ensures i;
      max_payload_fraction = c.field-3.ensures i;
      min_payload_fraction = c.field-4.ensures i;
      leaf_payload_fraction = c.field-5.ensures i;
      file_change_counter = c.field-6.ensures i;
      db_size = c.field-7.ensures i;
      first_freelist_page_no = c.field-8.ensures i;
      total_freelist_pages = c.field-9.ensures i;
      schema_cookie = c.field-10.ensures i;
      schema_format_no = c.field-11.ensures i;
      default_page_cache_size = c.field-12.ensures i;
      no_largest_root_b_tree = c.field-13.ensures i;
      db_text_encoding = c.field-14.ensures i;
      user_version = c.field-15.ensures i;
      incremental_vacuum_mode = c.field-16.ensures i;
      application_id = c.field-17.ensures i;
      version_valid_for_no = c.field-18.ensures i;
      sqlite_version_number = c.field-19.ensures i;
    }
