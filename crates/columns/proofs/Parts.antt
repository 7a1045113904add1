-- A column, and a step over one, are told by their parts.
use Prim.Native.Nat.{ℕ}
use mathlib.Core.Path.{◌≡◌, ap}
use Rattle.columns.specs.declared.Cursor.{Cursor}
use Rattle.columns.specs.declared.Slot.{Slot}
use Rattle.columns.specs.declared.Step.{Step}
use Rattle.columns.specs.Columns.{slot_at, step_over}

pub slot-parts : {t at x on : ℕ} → slot_at t at ≡ slot_at x on → (t ≡ x) × (at ≡ on)
slot-parts {t} {at} {x} {on} e =
    let f : ◌≡◌ {A = Slot} (record { serial = t; at = at }) (record { serial = x; at = on }) = cc in
    (ap (λ y. y.serial) f, ap (λ y. y.at) f)

pub step-parts : {t at x on : ℕ} {next after : Cursor} → step_over t at next ≡ step_over x on after → (t ≡ x) × (at ≡ on) × (next ≡ after)
step-parts {t} {at} {x} {on} {next} {after} e =
    let f : ◌≡◌ {A = Step} (record { serial = t; at = at; next = next }) (record { serial = x; at = on; next = after }) = cc in
    (ap (λ y. y.serial) f, ap (λ y. y.at) f, ap (λ y. y.next) f)
