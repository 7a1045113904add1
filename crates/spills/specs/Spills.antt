-- A payload that spills: what a call that is lent no buffer is refused with for it, 18, and the bytes that a place counts in.
use Rattle.std.specs.Prelude.{List, Bool, true, false, ℕ}
use Rattle.answers.specs.declared.Fault.{Fault}
use Rattle.answers.specs.declared.Fault.TheVariants as fa
use Rattle.answers.specs.declared.Refusal.{Refusal}
use Rattle.answers.specs.declared.Refusal.TheVariants.{OfDatabase, OnPage, InCell}
use Rattle.spills.specs.declared.Source.{Source}
use Rattle.spills.specs.declared.Source.TheVariants.{Database, Buffer}

abbrev pub spills_as : Fault → Bool
spills_as fa.PointerOutside = false
spills_as fa.CellCut = false
spills_as fa.PayloadSpills = true
spills_as fa.BufferTooShort = false
spills_as fa.ChainUnfit = false
spills_as fa.HeaderUnfit = false
spills_as (fa.TypeReserved column) = false
spills_as (fa.ValueUnfit column) = false
spills_as fa.ClosingCut = false
spills_as (fa.Marked mark) = false
spills_as fa.OutOfOrder = false

abbrev pub spills : Refusal → Bool
spills (OfDatabase flaw) = false
spills (OnPage page reason) = false
spills (InCell page cell fault) = spills_as fault

-- the bytes that a place counts in
abbrev pub bytes_in : Source → List ℕ → List ℕ → List ℕ
bytes_in Database db buffer = db
bytes_in Buffer db buffer = buffer
