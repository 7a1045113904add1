-- A column of a cell: its serial type, and where its value stands in the bytes. The values stand behind the header, each behind
-- the one before, and end with the payload.
use Rattle.std.specs.Prelude.{ℕ, ◌+◌, List, Err, None, Ok, Option, Result, Some}
use Rattle.answers.specs.declared.Reason.TheVariants as re
use Rattle.answers.specs.declared.Refusal.{Refusal}
use Rattle.answers.specs.declared.Refusal.TheVariants.{OnPage}
use Rattle.record.specs.Record.{values_at}
use Rattle.columns.specs.Columns.{slot_in, slot_of}
use Rattle.place.specs.declared.Page.{Page}
use Rattle.cells.specs.Located.{Located, located_of}
use Rattle.row.specs.Found.{payload_from}
use Rattle.columns.specs.declared.Slot.{Slot}
use Rattle.row.specs.declared.FoundCell.{FoundCell}

-- a column by its type and the place of its value
abbrev pub column_at : ℕ → ℕ → Result Slot Refusal
column_at serial at = Ok (record { serial = serial; at = at })

abbrev pub slot_then : Page → Option Slot → Result Slot Refusal
slot_then page None = Err (OnPage page.number re.NoSuchColumn)
slot_then page (Some slot) = column_at slot.serial slot.at

-- column k of a located cell, by its types
abbrev pub slot_on : ℕ → Located → Option Slot
slot_on k l =
    slot_in k (payload_from l + values_at l.opened.page.reading l.cell.header) (payload_from l + l.cell.payload) l.cell.types

abbrev pub column_by : ℕ → Result Located Refusal → Result Slot Refusal
column_by k (Err refusal) = Err refusal
column_by k (Ok l) = slot_then l.opened.page (slot_on k l)

unfoldable pub column_of : Page → ℕ → ℕ → List ℕ → Result Slot Refusal
column_of page i k db = column_by k (located_of page i db)

-- as the code comes to it, along a cursor; that it comes to the same column is a law (proofs/Placed.antt, `column-along`)
abbrev pub column_from : ℕ → List ℕ → Result FoundCell Refusal → Result Slot Refusal
column_from k db (Err refusal) = Err refusal
column_from k db (Ok f) = slot_then f.page (slot_of k f.cursor db)
