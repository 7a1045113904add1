-- A record's column count is the number of its types: a walk that comes to an end has passed every one.
use Prim.Native.Nat.{ℕ, suc, ◌+◌, ◌-◌}
use mathlib.Core.Path.{◌≡◌, refl, sym}
use mathlib.Core.List.{List}
use mathlib.Core.Bool.{Bool, true, false}
use native.Mathlib.Nat.{add-zero, zero-add}
use native.Mathlib.Omega.{arith}
use lib.Dec.{ltb, eqb}
use lib.ListN.{length}
use Rattle.laws.specs.Pick.{pick}
use Rattle.serial.specs.Serial.{width_of}
use Rattle.reading.specs.declared.Reading.{Reading}
use Rattle.reading.specs.declared.Reading.TheVariants.{Old as old, File as file}
use Rattle.answers.specs.declared.Fault.TheVariants as fa
use Rattle.record.specs.declared.Laid.{Laid}
use Rattle.record.specs.declared.Laid.TheVariants.{Ends, Breaks, Reserved, Passes}
use Rattle.record.specs.Types.{Types, done, broken, column, ended, count, walk}
use Rattle.record.specs.Record.{judged, types_in, fitted}
use Rattle.answers.specs.declared.Fault.{Fault}
use Rattle.record.specs.Record.{fits_with}
use Rattle.record.specs.declared.Fitted.{Fitted}
use Rattle.std.specs.Prelude.{Err, None, Ok, Option, Result, Some}

-- the columns that a walk passed, or `other` where it was stopped
abbrev passed : ℕ → Laid → ℕ
passed other (Ends n left) = n
passed other (Breaks n left) = n
passed other (Reserved n) = other
passed other (Passes n) = other

walk-passed : (col left : ℕ) (ts : Types) → passed (col + count ts) (walk col left ts) ≡ col + count ts
unfolding walk
walk-passed col left done = sym (add-zero col)
walk-passed col left broken = sym (add-zero col)
walk-passed col left (column t rest) = go (width_of t.value) (λ w. walk-passed (col + 1) (left - w) rest)
  where
    on : (w : ℕ) (b : Bool) → passed (col + 1 + count rest) (walk (col + 1) (left - w) rest) ≡ col + 1 + count rest
        → passed (col + suc (count rest)) (elim b [ true ↦ Passes col | false ↦ walk (col + 1) (left - w) rest ]) ≡ col + suc (count rest)
    on w true ih = refl
    on w false ih = let e : col + suc (count rest) ≡ col + 1 + count rest = omega arith in rw e ih

    go : (x : Option ℕ) → ((w : ℕ) → passed (col + 1 + count rest) (walk (col + 1) (left - w) rest) ≡ col + 1 + count rest)
        → passed (col + suc (count rest)) (elim x [ Some w ↦ elim (ltb left w) [ true ↦ Passes col | false ↦ walk (col + 1) (left - w) rest ] | None ↦ Reserved col ])
        ≡ col + suc (count rest)
    go None ih = refl
    go (Some w) ih = on w (ltb left w) (ih w)

-- and the columns of a record that fits
abbrev fitting : ℕ → Result Fitted Fault → ℕ
fitting other (Ok fit) = fit.columns
fitting other (Err fault) = other

judged-fitting : (r : Reading) (ts : Types) (x : Laid) (n : ℕ) → passed n x ≡ n → fitting n (judged r ts x) ≡ n
judged-fitting old ts (Ends m left) n e = e
judged-fitting old ts (Breaks m left) n e = e
judged-fitting old ts (Reserved m) n e = refl
judged-fitting old ts (Passes m) n e = refl
judged-fitting file ts (Ends m left) n e = go (eqb left 0)
  where
    go : (b : Bool) → fitting n (pick b (fits_with m left) (Err (fa.ValueUnfit m))) ≡ n
    go true = e
    go false = refl
judged-fitting file ts (Breaks m left) n e = refl
judged-fitting file ts (Reserved m) n e = go (ended ts)
  where
    go : (b : Bool) → fitting n (pick b (Err (fa.TypeReserved m)) (Err fa.HeaderUnfit)) ≡ n
    go true = refl
    go false = refl
judged-fitting file ts (Passes m) n e = go (ended ts)
  where
    go : (b : Bool) → fitting n (pick b (Err (fa.ValueUnfit m)) (Err fa.HeaderUnfit)) ≡ n
    go true = refl
    go false = refl

module _ (r : Reading) (a h : ℕ) (s : List ℕ) where
  fitted-fitting : fitting (count (types_in r a h s)) (fitted r a h s) ≡ count (types_in r a h s)
  unfolding fitted
  fitted-fitting = go (ltb h a) (ltb (length s) (h - a))
    where
      go : (p q : Bool)
          → fitting (count (types_in r a h s)) (pick p (Err fa.HeaderUnfit) (pick q (Err fa.HeaderUnfit) (judged r (types_in r a h s) (walk 0 (length s - (h - a)) (types_in r a h s)))))
          ≡ count (types_in r a h s)
      go true q = refl
      go false true = refl
      go false false = judged-fitting r (types_in r a h s) _ _ (rw zero-add at (walk-passed 0 (length s - (h - a)) (types_in r a h s)))

  pub fits_count : {n left : ℕ} → fitted r a h s ≡ fits_with n left → n ≡ count (types_in r a h s)
  fits_count e = rw e at fitted-fitting
