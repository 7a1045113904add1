-- The database and its pages as C has them: the header, the count of pages, the head of a page, and a page that is opened.
use Rattle.std.specs.Prelude.{ℕ, Err, Ok, Result}
use Rattle.answers.specs.declared.Refusal.TheVariants.{OfDatabase}
use Rattle.header.specs.declared.Header as hd
use Rattle.kinds.specs.Kind.{kind_byte}
use Rattle.asked.specs.Asked.{page_by, kind_by}
use Rattle.page.specs.declared.Open.{Open}
use Rattle.table.specs.declared.Head.{Head}
use Rattle.turns.specs.declared.types.Header.{Header}
use Rattle.turns.specs.declared.types.Pages.{Pages}
use Rattle.turns.specs.declared.types.Listed.{Listed}
use Rattle.turns.specs.declared.types.PageHead.{PageHead}
use Rattle.turns.specs.declared.types.Opened.{Opened}
use Rattle.turns.specs.declared.types.Opening.{Opening}
use Rattle.turns.specs.Refusals.{accepted, refused_by}
use Rattle.answers.specs.declared.Flaw.{Flaw}
use Rattle.answers.specs.declared.Refusal.{Refusal}
use Rattle.shape.specs.declared.Shape.{Shape}

-- THE HEADER, AND HOW MANY PAGES

abbrev pub no_fields : hd.Header
no_fields =
    record {
      page_size = 0;
      write_version = 0;
      read_version = 0;
      reserved_space = 0;
      max_payload_fraction = 0;
      min_payload_fraction = 0;
      leaf_payload_fraction = 0;
      file_change_counter = 0;
      db_size = 0;
      first_freelist_page_no = 0;
      total_freelist_pages = 0;
      schema_cookie = 0;
      schema_format_no = 0;
      default_page_cache_size = 0;
      no_largest_root_b_tree = 0;
      db_text_encoding = 0;
      user_version = 0;
      incremental_vacuum_mode = 0;
      application_id = 0;
      version_valid_for_no = 0;
      sqlite_version_number = 0;
    }

abbrev pub header_by : Result hd.Header Flaw → Header
header_by (Err flaw) = record { refused = refused_by (OfDatabase flaw); fields = no_fields }
header_by (Ok fields) = record { refused = accepted; fields = fields }

abbrev pub pages_by : Result Shape Flaw → Pages
pages_by (Err flaw) = record { refused = refused_by (OfDatabase flaw); count = 0; present = 0 }
pages_by (Ok shape) = record { refused = accepted; count = shape.pages; present = shape.present }

-- the rows of a table
abbrev pub listed_by : Result ℕ Refusal → Listed
listed_by (Err refusal) = record { refused = refused_by refusal; count = 0 }
listed_by (Ok n) = record { refused = accepted; count = n }

-- THE HEAD OF A PAGE

abbrev pub no_head : Head
no_head =
    record { kind = 0; first_freeblock = 0; cells = 0; content_start = 0; fragmented = 0; rightmost = 0 }

abbrev pub head_by : Result Head Refusal → PageHead
head_by (Err refusal) = record { refused = refused_by refusal; head = no_head }
head_by (Ok head) = record { refused = accepted; head = head }

-- OPENED PAGES

abbrev pub unopened : Opened
unopened = record { reading = 0; kind = 0; end = 0; number = 0; at = 0; size = 0; from = 0; cells = 0 }

-- in the reading of that number
abbrev pub opened_of : ℕ → Open → Opened
opened_of reading o =
    record {
      reading = reading;
      kind = kind_byte o.kind;
      end = o.end;
      number = o.page.number;
      at = o.at;
      size = o.size;
      from = o.from;
      cells = o.cells;
    }

abbrev pub opening_by : ℕ → Result Open Refusal → Opening
opening_by reading (Err refusal) = record { refused = refused_by refusal; opened = unopened }
opening_by reading (Ok o) = record { refused = accepted; opened = opened_of reading o }

-- and back
abbrev pub open_by : Opened → Open
open_by o =
    record {
      page = page_by o.reading o.number;
      at = o.at;
      size = o.size;
      end = o.end;
      from = o.from;
      kind = kind_by o.kind;
      cells = o.cells;
    }
