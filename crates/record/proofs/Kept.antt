-- What a record's answer keeps of the record: callers go from the one to the other by these two laws.
use mathlib.Core.Path.{◌≡◌, refl}
use Rattle.laws.proofs.Never.{never}
use Rattle.reading.specs.declared.Reading.{Reading}
use Rattle.answers.specs.declared.Fault.{Fault}
use Rattle.record.specs.declared.Record as dr
use Rattle.record.specs.Types.{Types, count}
use Rattle.record.specs.Record.{Record, values_at, answer_of}
use Rattle.std.specs.Prelude.{Err, Ok, Result}

pub faulted : (r : Reading) (x : Result Record Fault) {fault : Fault} → answer_of r x ≡ Err fault → x ≡ Err fault
faulted r (Err f) e = cc
faulted r (Ok c) e = never cc

-- the types, whose count the answer has, and where the values begin
pub record Kept (r : Reading) (x : Result Record Fault) (c : dr.Record) : Type 0 where
  pub ts : Types
  pub is : x ≡ Ok (record { header = c.header; types = ts; left = c.left })
  pub counted : count ts ≡ c.columns
  pub begin : values_at r c.header ≡ c.values

pub kept : (r : Reading) (x : Result Record Fault) {c : dr.Record} → answer_of r x ≡ Ok c → Kept r x c
kept r (Err f) e = never cc
kept r (Ok x) {c} e =
    let q : record { header = x.header; values = values_at r x.header; columns = count x.types; left = x.left } ≡ c = cc in
    rw (← q) (record { ts = x.types; is = refl; counted = refl; begin = refl })
