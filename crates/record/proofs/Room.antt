-- How values that fit lie: each with its width and room; in more bytes, too, which are then left over; and to the end where
-- the file reading accepts.
use Prim.Native.Nat.{ℕ, ◌+◌, ◌-◌, ◌≤◌}
use mathlib.Core.Path.{◌≡◌, refl, ap, ◌∙◌}
use mathlib.Core.Bool.{Bool, true, false}
use native.Mathlib.Omega.{arith}
use lib.Dec.{ltb, eqb}
use borrow.Author.Tests.{ltb-false}
use Rattle.laws.specs.Pick.{pick}
use Rattle.laws.proofs.Never.{never}
use Rattle.reading.specs.declared.Reading.{Reading}
use Rattle.reading.specs.declared.Reading.TheVariants.{Old as old, File as file}
use Rattle.varint.specs.declared.Number.{Number}
use Rattle.serial.specs.Serial.{width_of}
use Rattle.answers.specs.declared.Fault.{Fault}
use Rattle.answers.specs.declared.Fault.TheVariants as fa
use Rattle.record.specs.declared.Laid.{Laid}
use Rattle.record.specs.declared.Laid.TheVariants.{Ends, Breaks, Reserved, Passes}
use Rattle.record.specs.Types.{Types, done, broken, column, ended, walk}
use Rattle.record.specs.Record.{file_judged, judged}
use Rattle.record.proofs.Laws.{walk-on}
use Rattle.record.specs.Record.{fits_with}
use Rattle.record.specs.declared.Fitted.{Fitted}
use Rattle.std.specs.Prelude.{Err, None, Option, Some}

-- a column that a walk passed which comes to something of P: its value has a width, and room
pub record Passed (P : Laid → Type 0) (col left : ℕ) (t : Number) (rest : Types) : Type 0 where
  pub width : ℕ
  pub has : width_of t.value ≡ Some width
  pub room : width ≤ left
  pub on : P (walk (col + 1) (left - width) rest)

pub passed : (P : Laid → Type 0) → ((col : ℕ) → P (Reserved col) → ⊥) → ((col : ℕ) → P (Passes col) → ⊥)
    → (col left : ℕ) (t : Number) (rest : Types) → P (walk col left (column t rest)) → Passed P col left t rest
unfolding walk
passed P reserved passes col left t rest p = by_width (width_of t.value) refl p
  where
    by-room : (w : ℕ) → width_of t.value ≡ Some w → (b : Bool) → ltb left w ≡ b
        → P (elim b [ true ↦ Passes col | false ↦ walk (col + 1) (left - w) rest ]) → Passed P col left t rest
    by-room w i true j d = absurd (passes col d)
    by-room w i false j d = record { width = w; has = i; room = ltb-false left w j; on = d }

    by_width : (x : Option ℕ) → width_of t.value ≡ x
        → P (elim x [ Some w ↦ elim (ltb left w) [ true ↦ Passes col | false ↦ walk (col + 1) (left - w) rest ] | None ↦ Reserved col ])
        → Passed P col left t rest
    by_width None i d = absurd (reserved col d)
    by_width (Some w) i d = by-room w i (ltb left w) refl d

-- MORE ROOM

pub more_room : (col left d : ℕ) (ts : Types) {n l : ℕ} → walk col left ts ≡ Ends n l → walk col (left + d) ts ≡ Ends n (l + d)
unfolding walk
more_room col left d done {n} {l} e = let f : left ≡ l = cc in let g : col ≡ n = cc in rw (f, g)
more_room col left d broken e = never cc
more_room col left d (column t rest) {n} {l} e =
    let p = passed (λ x. x ≡ Ends n l) (λ k d. never cc) (λ k d. never cc) col left t rest e in
    let f : left + d - p.width ≡ left - p.width + d = omega (arith, p.room) in
    walk-on col (left + d) t rest p.width p.has (omega (arith, p.room)) ∙ rw f (more_room (col + 1) (left - p.width) d rest p.on)

-- values that fit in two ways fit in one
pub fits-parts : {n l m k : ℕ} → fits_with n l ≡ fits_with m k → (n ≡ m) × (l ≡ k)
fits-parts {n} {l} {m} {k} e =
    let f : ◌≡◌ {A = Fitted} (record { columns = n; left = l }) (record { columns = m; left = k }) = cc in
    (ap (λ x. x.columns) f, ap (λ x. x.left) f)

unfit : {A : Type 0} (b : Bool) (f g : Fault) {n l : ℕ} → pick b (Err f) (Err g) ≡ fits_with n l → A
unfit true f g e = never cc
unfit false f g e = never cc

pub accepted-ends : (end : Bool) (x : Laid) {n l : ℕ} → file_judged end x ≡ fits_with n l → x ≡ Ends n l
accepted-ends end (Ends m left) {n} {l} e = go (eqb left 0) e
  where
    go : (b : Bool) → pick b (fits_with m left) (Err (fa.ValueUnfit m)) ≡ fits_with n l → Ends m left ≡ Ends n l
    go true d = let f = fits-parts d in rw (f.0, f.1)
    go false d = never cc
accepted-ends end (Breaks m left) e = never cc
accepted-ends end (Reserved m) e = unfit end (fa.TypeReserved m) fa.HeaderUnfit e
accepted-ends end (Passes m) e = unfit end (fa.ValueUnfit m) fa.HeaderUnfit e

-- VALUES THAT FIT: a walk came past every one

abbrev pub Past : Laid → Type 0
Past (Ends n left) = Unit {0}
Past (Breaks n left) = Unit {0}
Past (Reserved n) = ⊥
Past (Passes n) = ⊥

pub fits-past : (r : Reading) (ts : Types) (x : Laid) {n l : ℕ} → judged r ts x ≡ fits_with n l → Past x
fits-past r ts (Ends m left) e = tt
fits-past r ts (Breaks m left) e = tt
fits-past old ts (Reserved m) e = never cc
fits-past old ts (Passes m) e = never cc
fits-past file ts (Reserved m) e = unfit (ended ts) (fa.TypeReserved m) fa.HeaderUnfit e
fits-past file ts (Passes m) e = unfit (ended ts) (fa.ValueUnfit m) fa.HeaderUnfit e
