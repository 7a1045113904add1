-- The three readings as a caller chooses one: what the single call on a value answers in each, and the pages and cells that it goes by.
use Rattle.std.specs.Prelude.{ℕ, List, Bool, true, false, eqb, Err, None, Ok, Option, Result, Some}
use Rattle.laws.specs.Pick.{pick}
use Rattle.reading.specs.declared.Reading.{Reading}
use Rattle.reading.specs.declared.Reading.TheVariants as re
use Rattle.answers.specs.declared.Reason.TheVariants.{NoSuchColumn}
use Rattle.answers.specs.declared.Refusal.{Refusal}
use Rattle.answers.specs.declared.Refusal.TheVariants.{OnPage}
use Rattle.place.specs.Place.{old_page, file_page}
use Rattle.page.specs.declared.Open.{Open}
use Rattle.page.specs.Open as page
use Rattle.columns.specs.Columns.{slot_of}
use Rattle.cells.specs.Located.{Located}
use Rattle.cells.specs.Located as cells
use Rattle.row_values.specs.Old as old
use Rattle.row_values.specs.File as file
use Rattle.guarded.specs.Guarded as guarded
use Rattle.turns.specs.declared.types.Shown.{Shown}
use Rattle.turns.specs.Refusals.{accepted, refused_by}
use Rattle.turns.specs.Shown.{empty, old_shown, file_shown}
use Rattle.turns.specs.Words.{value_at}
use Rattle.chosen.specs.declared.Chosen.{Chosen}
use Rattle.chosen.specs.declared.Chosen.TheVariants.{Old, File, Guarded}
use Rattle.columns.specs.declared.Slot.{Slot}
use Rattle.row.specs.declared.FoundCell.{FoundCell}

-- by its number
abbrev pub chosen_by : ℕ → Chosen
chosen_by number = pick (eqb number 0) Old (pick (eqb number 2) Guarded File)

-- THE SINGLE CALL

-- column k of cell i of the page of that number, lent no gather buffer
unfoldable pub shown_of : Chosen → ℕ → ℕ → ℕ → List ℕ → Shown
shown_of Old number i k db = old_shown (old.shown_of number i k db)
shown_of File number i k db = file_shown (file.shown_of number i k db)
shown_of Guarded number i k db = file_shown (guarded.shown_of number i k db)

-- BY A PAGE THAT IS OPENED AND A CELL THAT IS FOUND

-- the reading in which values are shown
abbrev pub reading_of : Chosen → Reading
reading_of Old = re.Old
reading_of File = re.File
reading_of Guarded = re.File

abbrev pub is_guarded : Chosen → Bool
is_guarded Old = false
is_guarded File = false
is_guarded Guarded = true

abbrev pub open_of : Chosen → ℕ → List ℕ → Result Open Refusal
open_of Old number db = page.open_of (old_page number) db
open_of File number db = page.open_of (file_page number) db
open_of Guarded number db = guarded.open_of number db

-- cell i of an opened page, in the guarded reading or in that of the page
abbrev pub located_in : Bool → Open → ℕ → List ℕ → Result Located Refusal
located_in true o i db = guarded.located_in o i db
located_in false o i db = cells.located_in o i db

-- what is shown where nothing is
abbrev pub refused_shown : Refusal → Shown
refused_shown refusal = record { refused = refused_by refusal; value = empty }

-- a column by its type and place, in a row of that page
abbrev pub slot_shown : Reading → ℕ → List ℕ → Option Slot → Shown
slot_shown r number db None = refused_shown (OnPage number NoSuchColumn)
slot_shown r number db (Some slot) = record { refused = accepted; value = value_at r slot.serial slot.at db }

-- column k of a cell, if it was found
abbrev pub found_shown : Reading → ℕ → List ℕ → Result FoundCell Refusal → ℕ → Shown
found_shown r number db (Err refusal) k = refused_shown refusal
found_shown r number db (Ok f) k = slot_shown r number db (slot_of k f.cursor db)
