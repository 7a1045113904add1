-- One cell as the file reading finds it with a gather buffer lent: on its page where its payload is whole, else with its
-- payload gathered. What a call with no buffer refuses with 18 is asked for again here, and nothing else.
use Rattle.std.specs.Prelude.{ℕ, List, length, Err, Ok, Result}
use Rattle.laws.specs.Pick.{pick}
use Rattle.reading.specs.declared.Reading.TheVariants.{File as file}
use Rattle.answers.specs.declared.Refusal.{Refusal}
use Rattle.answers.specs.Answer.{◌>>=◌}
use Rattle.record.specs.Record.{Record, values_at, record_of}
use Rattle.cell.specs.Cell.{Cell, told}
use Rattle.columns.specs.declared.Cursor.{Cursor}
use Rattle.place.specs.declared.Page.{Page}
use Rattle.page.specs.declared.Open.{Open}
use Rattle.page.specs.Open.{open_of}
use Rattle.cells.specs.Located.{Located, in_cell, located_in}
use Rattle.chain.specs.Gathered.{Gathered, gathered_in, buffer_by}
use Rattle.row.specs.declared.FoundCell.{FoundCell}
use Rattle.row.specs.Found.{cursor_in}
use Rattle.spills.specs.declared.Source.TheVariants.{Database, Buffer}
use Rattle.spills.specs.Spills.{spills}
use Rattle.spilled.specs.declared.FoundIn.{FoundIn}
use Rattle.spills.specs.declared.Source.{Source}

-- a cell that was found, and the bytes that its cursor counts in
abbrev pub found_from : FoundCell → Source → Result FoundIn Refusal
found_from found source = Ok (record { found = found; source = source })

-- A SPILLED CELL

pub record Spilled : Type 0 where
  pub page : Page
  pub cell : Cell
  -- the bytes of its payload
  pub payload : List ℕ

abbrev pub cell_with : Gathered → Record → Cell
cell_with g c =
    record { numbers = g.numbers; payload = length g.payload; header = c.header; types = c.types; row = g.numbers.key }

-- the record in a gathered payload is read as one on a page
abbrev pub recorded_in : Page → ℕ → Gathered → Result Spilled Refusal
recorded_in page i g = do
  c ← in_cell page i (record_of file g.payload)
  Ok (record { page = page; cell = cell_with g c; payload = g.payload })

-- cell i of an opened page, with a buffer of so many bytes
unfoldable pub spilled_in : Open → ℕ → ℕ → List ℕ → Result Spilled Refusal
spilled_in o i room db = do
  g ← gathered_in o i room db
  recorded_in o.page i g

-- IN 18'S PLACE

-- what is shown, or in 18's place another answer
abbrev pub instead : {A B : Type 0} → (A → B) → Result B Refusal → Result A Refusal → Result B Refusal
instead f other (Ok a) = Ok (f a)
instead f other (Err refusal) = pick (spills refusal) other (Err refusal)

-- what is gathered then: a buffer is left as it was where there is no 18
abbrev pub buffer_after : {A : Type 0} → Result A Refusal → Result Gathered Refusal → List ℕ → List ℕ
buffer_after (Ok a) g buffer = buffer
buffer_after (Err refusal) g buffer = pick (spills refusal) (buffer_by g buffer) buffer

-- A CELL OF THE FILE READING

pub data Lent : Type 0 where
  whole : Located → Lent
  gathered : Spilled → Lent

-- cell i of an opened page
unfoldable pub lent_in : Open → ℕ → ℕ → List ℕ → Result Lent Refusal
lent_in o i room db = instead whole (spilled_in o i room db >>= (λ c. Ok (gathered c))) (located_in o i db)

unfoldable pub buffer_in : Open → ℕ → List ℕ → List ℕ → List ℕ
buffer_in o i db buffer = buffer_after (located_in o i db) (gathered_in o i (length buffer) db) buffer

-- cell i of a page
unfoldable pub lent_of : Page → ℕ → ℕ → List ℕ → Result Lent Refusal
lent_of page i room db = do
  o ← open_of page db
  lent_in o i room db

abbrev pub buffer_on : Result Open Refusal → ℕ → List ℕ → List ℕ → List ℕ
buffer_on (Err refusal) i db buffer = buffer
buffer_on (Ok o) i db buffer = buffer_in o i db buffer

unfoldable pub buffer_of : Page → ℕ → List ℕ → List ℕ → List ℕ
buffer_of page i db buffer = buffer_on (open_of page db) i db buffer

-- AS THE CODE HAS IT: with the cursor before its first column, which counts in the payload where that was gathered

abbrev pub cursor_over : Cell → Cursor
cursor_over c =
    record {
      reading = file;
      at = c.header.length;
      stop = values_at file c.header;
      value = values_at file c.header;
      end = c.payload;
    }

abbrev pub found_over : Spilled → FoundCell
found_over c = record { page = c.page; cell = told file c.cell; cursor = cursor_over c.cell }

abbrev pub found_on : Located → FoundCell
found_on l = record { page = l.opened.page; cell = told l.opened.page.reading l.cell; cursor = cursor_in l }

abbrev pub gathered_by : Result Spilled Refusal → Result FoundIn Refusal
gathered_by (Err refusal) = Err refusal
gathered_by (Ok c) = found_from (found_over c) Buffer

abbrev pub lent_by : Result Lent Refusal → Result FoundIn Refusal
lent_by (Err refusal) = Err refusal
lent_by (Ok (whole l)) = found_from (found_on l) Database
lent_by (Ok (gathered c)) = found_from (found_over c) Buffer
