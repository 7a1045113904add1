-- A cell of any kind in both readings, from the part of the page that begins at its pointer (old: to the page's end;
-- file: to U): its numbers, its payload, the record in it, and what stands behind that. File format, 1.6 "B-tree Pages" and
-- 2.1 "Record Format"; the Rust's `_cell` functions.
use Rattle.std.specs.Prelude.{ℕ, ◌-◌, List, ltb, length, take, drop, Err, Ok, Result}
use Rattle.laws.specs.Pick.{pick}
use Rattle.varint.specs.declared.Number.{Number}
use Rattle.reading.specs.declared.Reading.{Reading}
use Rattle.reading.specs.declared.Reading.TheVariants.{Old as old, File as file}
use Rattle.answers.specs.declared.Fault.{Fault}
use Rattle.answers.specs.declared.Fault.TheVariants as fa
use Rattle.answers.specs.Answer.{◌>>=◌}
use Rattle.record.specs.Types.{Types, done, count}
use Rattle.record.specs.Record.{values_at, found, record_of}
use Rattle.kinds.specs.declared.Kind.{Kind}
use Rattle.kinds.specs.Kind.{has_size, has_closing, most_whole}
use Rattle.cell.specs.declared.Numbers.{Numbers}
use Rattle.cell.specs.declared.Cell as dc
use Rattle.cell.specs.Numbers.{none, number_in, numbers_of}

-- a cell that is accepted: its numbers, how many bytes of payload stand behind them, the record's header size and types, and
-- its row number or key; 0 in no bytes for what the kind lacks
pub record Cell : Type 0 where
  pub numbers : Numbers
  pub payload : ℕ
  pub header : Number
  pub types : Types
  pub row : Number

-- how many of the bytes s behind a cell's numbers are its payload, of size p where x may lie whole on the page: the Rust
-- never looks at p and takes all of them
abbrev pub payload_in : Reading → ℕ → ℕ → List ℕ → Result ℕ Fault
payload_in old x p s = Ok (length s)
payload_in file x p s = pick (ltb x p) (Err fa.PayloadSpills) (pick (ltb (length s) p) (Err fa.CellCut) (Ok p))

-- behind the numbers n: the payload, the record that it holds, and behind its values the row number that the Rust keeps of
-- an index cell
unfoldable pub behind : Reading → Kind → ℕ → Numbers → List ℕ → Result Cell Fault
behind r k u n s = do
  p ← payload_in r (most_whole k u) n.size.value s
  c ← record_of r (take p s)
  row ← found fa.ClosingCut (number_in (has_closing r k) 5 n.key (drop (length (take p s) - c.left) (take p s)))
  Ok (record { numbers = n; payload = p; header = c.header; types = c.types; row = row })

-- a cell with no payload
abbrev pub bare : Numbers → Cell
bare n = record { numbers = n; payload = 0; header = none; types = done; row = n.key }

-- the cell of kind k that begins s, on a page of u usable bytes; an interior table cell ends behind its key
unfoldable pub cell_of : Reading → Kind → ℕ → List ℕ → Result Cell Fault
cell_of r k u s = do
  n ← numbers_of r k s
  pick (has_size k) (behind r k u n (drop n.length s)) (Ok (bare n))

-- as the code has it: the types by their count
abbrev pub told : Reading → Cell → dc.Cell
told r c =
    record {
      numbers = c.numbers;
      payload = c.payload;
      header = c.header;
      values = values_at r c.header;
      columns = count c.types;
      row = c.row;
    }

abbrev pub answer_of : Reading → Result Cell Fault → Result dc.Cell Fault
answer_of r (Err fault) = Err fault
answer_of r (Ok c) = Ok (told r c)
