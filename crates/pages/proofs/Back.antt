-- A page that the opening call shows: it is what its reading opens, by its numbers and back.
use Prim.Native.Nat.{ℕ}
use mathlib.Core.Path.{◌≡◌, refl, sym, ap, ◌∙◌}
use native.Mathlib.Omega.{arith}
use Rattle.answers.specs.declared.Flaw.{Flaw}
use Rattle.answers.specs.declared.Flaw.TheVariants as fl
use Rattle.answers.specs.declared.Reason.{Reason}
use Rattle.answers.specs.declared.Reason.TheVariants as re
use Rattle.answers.specs.declared.Fault.{Fault}
use Rattle.answers.specs.declared.Fault.TheVariants as fa
use Rattle.answers.specs.declared.Refusal.{Refusal}
use Rattle.answers.specs.declared.Refusal.TheVariants.{OfDatabase, OnPage, InCell}
use Rattle.answers.specs.Numbers.{flaw_number, reason_number, fault_row, numbers_of}
use Rattle.kinds.specs.declared.Kind.{Kind}
use Rattle.kinds.specs.declared.Kind.TheVariants.{InteriorIndex, InteriorTable, LeafIndex, LeafTable}
use Rattle.kinds.specs.Kind.{kind_byte}
use Rattle.page.specs.declared.Open.{Open}
use Rattle.turns.specs.declared.types.Opened.{Opened}
use Rattle.turns.specs.declared.types.Opening.{Opening}
use Rattle.turns.specs.Refusals.{accepted}
use Rattle.asked.specs.Asked.{reading_by, kind_by}
use Rattle.pages.specs.Pages.{opened_of, opening_by, open_by}
use Rattle.std.specs.Prelude.{Err, Ok, Result}

-- BY ITS NUMBERS AND BACK

kind-back : (k : Kind) → kind_by (kind_byte k) ≡ k
kind-back InteriorIndex = refl
kind-back InteriorTable = refl
kind-back LeafIndex = refl
kind-back LeafTable = refl

open-back : (n : ℕ) (o : Open) → reading_by n ≡ o.page.reading → open_by (opened_of n o) ≡ o
open-back n o e = rw (e, kind-back o.kind)

-- no refusal has the number 0
flaw-not : (flaw : Flaw) → flaw_number flaw ≡ 0 → ⊥
flaw-not fl.OverLimit e = omega arith
flaw-not fl.OpeningDiffers e = omega arith
flaw-not fl.HeaderCut e = omega arith
flaw-not fl.EncodingUnknown e = omega arith
flaw-not fl.PageSizeUnfit e = omega arith
flaw-not fl.UsableTooSmall e = omega arith
flaw-not fl.ReadVersionAbove e = omega arith
flaw-not fl.FractionsDiffer e = omega arith

reason-not : (reason : Reason) → reason_number reason ≡ 0 → ⊥
reason-not re.PageAbsent e = omega arith
reason-not re.RootTooSmall e = omega arith
reason-not re.KindUnfit e = omega arith
reason-not re.PointersPassEnd e = omega arith
reason-not re.TableTooShort e = omega arith
reason-not re.NoSuchCell e = omega arith
reason-not re.NoSuchColumn e = omega arith
reason-not re.IndexPage e = omega arith
reason-not re.TooDeep e = omega arith
reason-not re.VisitsUsedUp e = omega arith

fault-not : (page cell : ℕ) (fault : Fault) → (fault_row page cell fault).number ≡ 0 → ⊥
fault-not page cell fa.PointerOutside e = omega arith
fault-not page cell fa.CellCut e = omega arith
fault-not page cell fa.PayloadSpills e = omega arith
fault-not page cell fa.BufferTooShort e = omega arith
fault-not page cell fa.ChainUnfit e = omega arith
fault-not page cell fa.HeaderUnfit e = omega arith
fault-not page cell (fa.TypeReserved column) e = omega arith
fault-not page cell (fa.ValueUnfit column) e = omega arith
fault-not page cell fa.ClosingCut e = omega arith
fault-not page cell (fa.Marked mark) e = omega arith
fault-not page cell fa.OutOfOrder e = omega arith

refused-not : (refusal : Refusal) → (numbers_of refusal).number ≡ 0 → ⊥
refused-not (OfDatabase flaw) e = flaw-not flaw e
refused-not (OnPage page reason) e = reason-not reason e
refused-not (InCell page cell fault) e = fault-not page cell fault e

-- the page behind an opening is the one that is handed back, in its reading
pub record Behind (n : ℕ) (answer : Result Open Refusal) (o : Opened) : Type 0 where
  pub is : answer ≡ Ok (open_by o)
  pub reading : o.reading ≡ n

pub page-behind : (n : ℕ) (answer : Result Open Refusal) (o : Opened) → ((p : Open) → answer ≡ Ok p → p.page.reading ≡ reading_by n)
    → opening_by n answer ≡ record { refused = accepted; opened = o } → Behind n answer o
page-behind n (Err refusal) o reads e = absurd (refused-not refusal (ap (λ (x : Opening). x.refused.number) e))
page-behind n (Ok p) o reads e =
    let turned : opened_of n p ≡ o = ap (λ (x : Opening). x.opened) e in
    record {
      is = ap Ok (sym (open-back n p (sym (reads p refl)))) ∙ ap (λ (x : Opened). Ok (open_by x)) turned;
      reading = ap (λ (x : Opened). x.reading) (sym turned);
    }
