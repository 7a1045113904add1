-- A cell that was checked, as the code hands it on: with its page and the cursor before its first column.
use Rattle.std.specs.Prelude.{ℕ, ◌+◌, ◌≤◌, Err, Ok, Result}
use Rattle.answers.specs.declared.Refusal.{Refusal}
use Rattle.cell.specs.Cell.{told}
use Rattle.columns.specs.declared.Cursor.{Cursor}
use Rattle.columns.specs.Opened.{cursor_at}
use Rattle.page.specs.declared.Open.{Open}
use Rattle.cells.specs.declared.Located as dl
use Rattle.cells.specs.Located.{Located}
use Rattle.row.specs.declared.FoundCell.{FoundCell}

-- where the payload of a located cell begins in the bytes
abbrev pub payload_from : Located → ℕ
payload_from l = l.opened.at + l.pointer + l.cell.numbers.length

abbrev pub cursor_in : Located → Cursor
cursor_in l = cursor_at l.opened.page.reading (payload_from l) l.cell

abbrev pub found_by : Result Located Refusal → Result FoundCell Refusal
found_by (Err refusal) = Err refusal
found_by (Ok l) =
    Ok (record { page = l.opened.page; cell = told l.opened.page.reading l.cell; cursor = cursor_in l })

-- of a cell of an opened page as the code has it: where its payload begins, and its cursor
abbrev pub from_for : Open → dl.Located → ℕ
from_for o l = o.at + l.pointer + l.cell.numbers.length

abbrev pub cursor_for : Open → dl.Located → Cursor
cursor_for o l =
    record {
      reading = o.page.reading;
      at = from_for o l + l.cell.header.length;
      stop = from_for o l + l.cell.values;
      value = from_for o l + l.cell.values;
      end = from_for o l + l.cell.payload;
    }

-- its payload lies in so many bytes, and in that its header
abbrev pub Lying : Open → dl.Located → ℕ → Type 0
Lying o l bytes =
    (from_for o l + l.cell.payload ≤ bytes) × (l.cell.values ≤ l.cell.payload) × (l.cell.header.length ≤ l.cell.values)
