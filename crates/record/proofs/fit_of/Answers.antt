-- The tests are the definition's; how all lies is what `lay` says of the header's bytes.
use Prim.Native.Nat.{ℕ, ◌+◌, ◌-◌, ◌≤◌}
use mathlib.Core.Path.{◌≡◌, sym, ap, ◌∙◌}
use mathlib.Core.List.{List}
use native.Mathlib.Omega.{arith}
use lib.ListN.{length, take}
use Rattle.reading.specs.declared.Reading.{Reading}
use Rattle.reading.specs.Reading.{limit}
use Rattle.record.specs.Types.{types_of, walk}
use Rattle.record.specs.Record.{fitted, judged}
use Rattle.record.proofs.Stages.{fit-below, fit-short, fit-laid, judged-old, judged-file}
use Rattle.record.proofs.fit_of.Goals as goal

-- the header's bytes and the values', parted
laid : (r : Reading) (a h : ℕ) (s values : List ℕ) {size : ℕ} {header : List ℕ} → (a ≤ h) × (size ≡ h - a) → size ≤ length s → header ≡ take size s
    → length values + size ≡ length s → fitted r a h s ≡ judged r (types_of (limit r) header) (walk 0 (length values) (types_of (limit r) header))
laid r a h s values low fits front back =
    let room : length values ≡ length s - (h - a) = omega arith in
    rw (front, room, low.1) (fit-laid r a h s low.0 (omega arith))

pub returns-in_default : goal.returns-in_default
returns-in_default c =
    let a = c.args in
    let over = c.in_default.ensures in
    sym (fit-below a.reading a.a a.h a.s.now (grind arith))

pub returns-in_default-split_at_checked : goal.returns-in_default-split_at_checked
returns-in_default-split_at_checked c =
    let a = c.args in
    let size = c.in-Some.ensures in
    let short = c.in_default-split_at_checked.ensures.cases in
    sym (fit-short a.reading a.a a.h a.s.now size.0 (omega arith))

pub returns-in-Old : goal.returns-in-Old
returns-in-Old c =
    let a = c.args in
    let p = c.in-Some-split_at_checked in
    let h = p.ensures.cases in
    let five : limit a.reading ≡ 5 = ap limit c.in-Old.is in
    c.old_judged.ensures
    ∙ rw (c.lay.ensures, ← five)
    (sym (laid a.reading a.a a.h a.s.now p.values.now c.in-Some.ensures h.0 h.1 h.4 ∙ judged-old c.in-Old.is (types_of (limit a.reading) p.types.now) _))

pub returns-in-File : goal.returns-in-File
returns-in-File c =
    let a = c.args in
    let p = c.in-Some-split_at_checked in
    let h = p.ensures.cases in
    let nine : limit a.reading ≡ 9 = ap limit c.in-File.is in
    c.file_judged.ensures
    ∙ rw (c.lay-in-File.ensures, ← nine)
    (sym (laid a.reading a.a a.h a.s.now p.values.now c.in-Some.ensures h.0 h.1 h.4 ∙ judged-file c.in-File.is (types_of (limit a.reading) p.types.now) _))
