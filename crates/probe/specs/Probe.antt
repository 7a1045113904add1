-- The page call as a caller sees it that has no table of its own: one of eight places is lent, and what it held before
-- is in no page.
use Rattle.std.specs.Prelude.{ℕ, List, get_or, replicate, pos}
use Rattle.place.specs.declared.Page.{Page}
use Rattle.page.specs.Open.{open_of}
use Rattle.table.specs.declared.Entry.{Entry}
use Rattle.table.specs.Entry.{filled}
use Rattle.table.specs.Page.{page_of, written}
use Rattle.probe.specs.declared.Returned.{Returned}
use Rattle.probe.specs.declared.Probed.{Probed}

-- what a place holds before the call; no page has a kind of 255
abbrev pub blank : Entry
blank = record { kind = 255; pointer = 7; child = 7; payload_size = 7; row = pos 7; header_size = 7; columns = 7 }

abbrev pub blanks : List Entry
blanks = replicate 8 blank

-- a call that was lent ys, eight entries: its answer, and the table behind it
unfoldable pub returned_of : Page → List ℕ → List Entry → Returned
returned_of asked db ys =
    record {
      answer = page_of asked 8 db;
      table = filled (open_of asked db) db (written (page_of asked 8 db)) ys;
    }

-- a call that was lent blanks: its answer, and place i of the table; blank where there is no such place
unfoldable pub probe_of : ℕ → Page → List ℕ → Probed
probe_of i asked db =
    record {
      answer = (returned_of asked db blanks).answer;
      entry = get_or (returned_of asked db blanks).table i blank;
    }
