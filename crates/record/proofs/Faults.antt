-- What is wrong with a record is never that its payload spills: whoever reads a record has its payload.
use Prim.Native.Nat.{ℕ, ◌-◌}
use mathlib.Core.Path.{◌≡◌}
use mathlib.Core.List.{List}
use mathlib.Core.Bool.{Bool, true, false}
use lib.Dec.{ltb, eqb}
use lib.ListN.{length, drop}
use Rattle.laws.specs.Pick.{pick}
use Rattle.laws.proofs.Never.{never}
use Rattle.varint.specs.declared.Number.{Number}
use Rattle.varint.specs.Varint.{varint_of}
use Rattle.reading.specs.declared.Reading.{Reading}
use Rattle.reading.specs.declared.Reading.TheVariants.{Old as old, File as file}
use Rattle.reading.specs.Reading.{limit}
use Rattle.answers.specs.declared.Fault.{Fault}
use Rattle.answers.specs.declared.Fault.TheVariants as fa
use Rattle.answers.specs.Answer.{◌>>=◌}
use Rattle.record.specs.declared.Laid.{Laid}
use Rattle.record.specs.declared.Laid.TheVariants.{Ends, Breaks, Reserved, Passes}
use Rattle.record.specs.Types.{Types, ended, walk}
use Rattle.record.specs.Record.{Record, headless, counted, file_judged, judged, types_in, fitted, found, left_by, record_of}
use Rattle.record.specs.Record.{fits_with}
use Rattle.record.specs.declared.Fitted.{Fitted}
use Rattle.std.specs.Prelude.{Err, Ok, Result}
use Rattle.varint.specs.declared.Cause.{Cause}

abbrev Own : Result Fitted Fault → Type 0
Own (Ok fit) = Unit
Own (Err fault) = fault ≡ fa.PayloadSpills → ⊥

either : (b : Bool) (x y : Result Fitted Fault) → Own x → Own y → Own (pick b x y)
either true x y h k = h
either false x y h k = k

file-own : (end : Bool) (x : Laid) → Own (file_judged end x)
file-own end (Ends col left) = either (eqb left 0) (fits_with col left) (Err (fa.ValueUnfit col)) tt λ e. never cc
file-own end (Breaks col left) = λ e. never cc
file-own end (Reserved col) = either end (Err (fa.TypeReserved col)) (Err fa.HeaderUnfit) (λ e. never cc) λ e. never cc
file-own end (Passes col) = either end (Err (fa.ValueUnfit col)) (Err fa.HeaderUnfit) (λ e. never cc) λ e. never cc

judged-own : (r : Reading) (ts : Types) (x : Laid) → Own (judged r ts x)
judged-own old ts (Ends col left) = tt
judged-own old ts (Breaks col left) = tt
judged-own old ts (Reserved col) = λ e. never cc
judged-own old ts (Passes col) = λ e. never cc
judged-own file ts x = file-own (ended ts) x

fitted-own : (r : Reading) (a h : ℕ) (s : List ℕ) → Own (fitted r a h s)
unfolding fitted
fitted-own r a h s =
    either (ltb h a) _ _ (λ e. never cc)
    (either (ltb (length s) (h - a)) _ _ (λ e. never cc)
    (judged-own r (types_in r a h s) (walk 0 (length s - (h - a)) (types_in r a h s))))

headless-own : (r : Reading) → headless r ≡ fa.PayloadSpills → ⊥
headless-own old e = never cc
headless-own file e = never cc

abbrev made : Reading → List ℕ → Number → ℕ → Result Record Fault
made r q h left = Ok (record { header = h; types = types_in r (counted r h.length) h.value (drop h.length q); left = left })

pub not-spilled : (r : Reading) (q : List ℕ) → record_of r q ≡ Err fa.PayloadSpills → ⊥
unfolding record_of
not-spilled r q e = by-header (varint_of (limit r) q) e
  where
    by-fit : (h : Number) (x : Result Fitted Fault) → Own x → (left_by x >>= made r q h) ≡ Err fa.PayloadSpills → ⊥
    by-fit h (Ok fit) own d = never cc
    by-fit h (Err fault) own d = own cc

    by-header : (v : Result Number Cause)
        → (found (headless r) v >>= (λ h. left_by (fitted r (counted r h.length) h.value (drop h.length q)) >>= made r q h)) ≡ Err fa.PayloadSpills → ⊥
    by-header (Err c) d = headless-own r cc
    by-header (Ok h) d =
        by-fit h (fitted r (counted r h.length) h.value (drop h.length q)) (fitted-own r (counted r h.length) h.value (drop h.length q)) d
