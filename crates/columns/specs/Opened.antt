-- The cursor before the first column of a cell, whose payload stands at a place of the bytes.
use Rattle.std.specs.Prelude.{ℕ, ◌+◌}
use Rattle.reading.specs.declared.Reading.{Reading}
use Rattle.record.specs.Record.{values_at}
use Rattle.cell.specs.Cell.{Cell}
use Rattle.columns.specs.declared.Cursor.{Cursor}

-- the types stand behind the header size, the values behind the types, and both end with the payload
abbrev pub cursor_at : Reading → ℕ → Cell → Cursor
cursor_at r base c =
    record {
      reading = r;
      at = base + c.header.length;
      stop = base + values_at r c.header;
      value = base + values_at r c.header;
      end = base + c.payload;
    }
