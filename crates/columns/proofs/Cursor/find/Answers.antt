-- So many columns on from the cursor here is column k of the first.
use Prim.Native.Nat.{suc, ◌+◌, ◌-◌}
use mathlib.Core.Path.{◌≡◌, sym, ◌∙◌}
use native.Mathlib.Omega.{arith}
use Rattle.columns.proofs.Laws.{slot-done, slot-here, slot_next}
use Rattle.columns.proofs.Cursor.find.Goals as goal

pub returns-in_err-here : goal.returns-in_err-here
returns-in_err-here c =
    let l = c.loop-passed in
    rw c.from_residual.ensures
    (sym (slot-done l.here c.args.s.now (c.args.k - l._passed) (sym c.step.ensures ∙ c.in_err-here.was)) ∙ l.invariant)

pub loop-passed-preserved : goal.loop-passed-preserved
loop-passed-preserved c =
    let l = c.loop-passed in
    let i : c.args.k - l._passed ≡ suc (c.args.k - (l._passed + 1)) = omega arith in
    sym (slot_next l.here c.args.s.now (sym c.step.ensures ∙ c.in_ok-here.was) (c.args.k - (l._passed + 1))) ∙ rw i at l.invariant

pub returns-in_err-serial : goal.returns-in_err-serial
returns-in_err-serial c =
    let l = c.loop-passed in
    rw c.from_residual-in_err-serial.ensures
    (sym (slot-done l.here c.args.s.now (c.args.k - l._passed) (sym c.step-2.ensures ∙ c.in_err-serial.was)) ∙ l.invariant)

pub returns : goal.returns
returns c =
    let l = c.loop-passed in
    let z : c.args.k - l._passed ≡ 0 = omega arith in
    sym (slot-here l.here c.args.s.now (sym c.step-2.ensures ∙ c.in_ok-serial.was)) ∙ rw z at l.invariant
