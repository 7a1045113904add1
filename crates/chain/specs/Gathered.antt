-- A cell whose payload spills, with its payload gathered in a buffer that is lent: the buffer holds the payload and then its
-- bytes as they were, or is left as it was where nothing is gathered.
use Rattle.std.specs.Prelude.{ℕ, List, ◌++◌, length, drop, Err, Ok, Result}
use Rattle.reading.specs.declared.Reading.TheVariants.{File as file}
use Rattle.answers.specs.declared.Fault.{Fault}
use Rattle.answers.specs.declared.Refusal.{Refusal}
use Rattle.answers.specs.Answer.{◌>>=◌}
use Rattle.cell.specs.declared.Numbers.{Numbers}
use Rattle.shape.specs.Shape.{shape_of}
use Rattle.page.specs.declared.Open.{Open}
use Rattle.site.specs.Site.{of_database}
use Rattle.cells.specs.Located.{in_cell, part_in}
use Rattle.cells.specs.Numbered.{numbers_in}
use Rattle.chain.specs.Payload.{payload_of}

-- the numbers before the payload, and the payload
pub record Gathered : Type 0 where
  pub numbers : Numbers
  pub payload : List ℕ

-- cell i of an opened page, by its numbers; its chain lies in pages of the file's shape
unfoldable pub gathered_with : Open → ℕ → Numbers → ℕ → List ℕ → Result Gathered Refusal
gathered_with o i n room db = do
  shape ← of_database (shape_of file db)
  q ← in_cell o.page i (payload_of o.kind shape room n.size.value (drop n.length (part_in o i db)) db)
  Ok (record { numbers = n; payload = q })

unfoldable pub gathered_in : Open → ℕ → ℕ → List ℕ → Result Gathered Refusal
gathered_in o i room db = do
  n ← numbers_in o i db
  gathered_with o i n room db

-- THE BUFFER

-- a payload over the first bytes of a buffer
abbrev pub laid : List ℕ → List ℕ → List ℕ
laid q buffer = q ++ drop (length q) buffer

abbrev pub held_by : {R : Type 0} → Result (List ℕ) R → List ℕ → List ℕ
held_by (Err r) buffer = buffer
held_by (Ok q) buffer = laid q buffer

abbrev pub buffer_by : Result Gathered Refusal → List ℕ → List ℕ
buffer_by (Err refusal) buffer = buffer
buffer_by (Ok g) buffer = laid g.payload buffer

-- AS THE CODE HAS IT

abbrev pub payload_answer : Result (List ℕ) Fault → Result ℕ Fault
payload_answer (Err fault) = Err fault
payload_answer (Ok q) = Ok (length q)

-- how many bytes are gathered
abbrev pub gather_answer : Result Gathered Refusal → Result ℕ Refusal
gather_answer (Err refusal) = Err refusal
gather_answer (Ok g) = Ok (length g.payload)
