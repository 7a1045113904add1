-- What an answer keeps of the cell, and the one fault of its numbers: callers go from the one to the other by these laws.
use Prim.Native.Nat.{ℕ}
use mathlib.Core.Path.{◌≡◌, refl}
use mathlib.Core.List.{List}
use Rattle.laws.proofs.Never.{never}
use Rattle.reading.specs.declared.Reading.{Reading}
use Rattle.answers.specs.declared.Fault.{Fault}
use Rattle.answers.specs.declared.Fault.TheVariants as fa
use Rattle.record.specs.Types.{Types, count}
use Rattle.record.specs.Record.{values_at}
use Rattle.kinds.specs.declared.Kind.{Kind}
use Rattle.cell.specs.declared.Numbers.{Numbers}
use Rattle.cell.specs.declared.Cell as dc
use Rattle.cell.specs.Numbers.{numbers_of}
use Rattle.cell.specs.Cell.{Cell, answer_of}
use Rattle.cell.proofs.Laws.{Told, cut, read, numbers-told}
use Rattle.std.specs.Prelude.{Err, Ok, Result}

-- numbers that are not read are cut
pub numbers-cut : (r : Reading) (k : Kind) (s : List ℕ) {fault : Fault} → numbers_of r k s ≡ Err fault → fault ≡ fa.CellCut
numbers-cut r k s {fault} e = go (numbers_of r k s) (numbers-told r k s) e
  where
    go : (x : Result Numbers Fault) → Told r k s x → x ≡ Err fault → fault ≡ fa.CellCut
    go x cut d = cc
    go x (read t) d = never cc

-- the types, whose count the answer has, and where the values begin
pub record Kept (r : Reading) (x : Result Cell Fault) (c : dc.Cell) : Type 0 where
  pub ts : Types
  pub is : x ≡ Ok (record { numbers = c.numbers; payload = c.payload; header = c.header; types = ts; row = c.row })
  pub counted : count ts ≡ c.columns
  pub begin : values_at r c.header ≡ c.values

pub kept : (r : Reading) (x : Result Cell Fault) {c : dc.Cell} → answer_of r x ≡ Ok c → Kept r x c
kept r (Err fault) e = never cc
kept r (Ok x) {c} e =
    let q : record { numbers = x.numbers; payload = x.payload; header = x.header; values = values_at r x.header; columns = count x.types; row = x.row } ≡ c = cc in
    rw (← q) (record { ts = x.types; is = refl; counted = refl; begin = refl })
