-- What the short way says, stage by stage: what the plain form makes of the same bytes, or nothing. None of it is to be
-- believed: it is what the functions on the way promise each other, and `row_in` promises the plain form's answer.
use Rattle.std.specs.Prelude.{ℕ, ◌≡◌, List, Bool, true, None, Ok, Option, Result, Some}
use Rattle.varint.specs.Varint.{number}
use Rattle.reading.specs.declared.Reading.{Reading}
use Rattle.record.specs.Types.{Types, count}
use Rattle.record.specs.Record.{values_at, record_of}
use Rattle.kinds.specs.declared.Kind.TheVariants.{LeafTable}
use Rattle.cell.specs.Cell.{Cell, cell_of}
use Rattle.marks.specs.Marks.{mark_of}
use Rattle.layout.specs.Lying.{Clean}
use Rattle.usual.specs.declared.Span.{Span}
use Rattle.answers.specs.declared.Refusal.{Refusal}
use Rattle.usual.specs.Usual.{row_with}
use Rattle.usual.specs.declared.Header.{Header}
use Rattle.usual.specs.declared.Row.{Row}

-- THE RECORD in q: one with a header size of one byte, and so many columns

pub record Head (g : Bool) (r : Reading) (q : List ℕ) (size n : ℕ) : Type 0 where
  pub types : Types
  pub left : ℕ
  pub is : record_of r q ≡ Ok (record { header = number size 1; types = types; left = left })
  pub columns : count types ≡ n
  pub clean : g ≡ true → Clean types

abbrev pub Headed : Bool → Reading → List ℕ → Option Header → Type 0
Headed g r q None = Unit {0}
Headed g r q (Some head) = Head g r q head.size head.columns

-- THE ROW that begins s, on a page of u usable bytes: a cell, and where its parts stand in s

pub record Start (g : Bool) (r : Reading) (u : ℕ) (s : List ℕ) (x : Span) : Type 0 where
  pub cell : Cell
  pub is : cell_of r LeafTable u s ≡ Ok cell
  pub number : cell.row.value ≡ x.number
  pub columns : count cell.types ≡ x.columns
  pub from : cell.numbers.length ≡ x.from
  pub payload : cell.payload ≡ x.payload
  pub own : cell.header.length ≡ 1
  pub values : values_at r cell.header ≡ x.header
  pub clean : g ≡ true → mark_of cell ≡ None

abbrev pub Begun : Bool → Reading → ℕ → List ℕ → Option Span → Type 0
Begun g r u s None = Unit {0}
Begun g r u s (Some x) = Start g r u s x

-- THE ANSWER

abbrev pub Says : Result Row Refusal → Option Row → Type 0
Says answer None = Unit {0}
Says answer (Some row) = answer ≡ row_with row.number row.columns row.cursor
