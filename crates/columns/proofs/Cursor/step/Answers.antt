-- What is read before the cursor decides the step.
use mathlib.Core.Path.{sym, ◌∙◌}
use native.Mathlib.Omega.{arith}
use lib.ListN.{length-take, length-drop}
use Rattle.varint.proofs.Laws.{length-bounds}
use Rattle.reading.specs.Reading.{limit}
use Rattle.columns.proofs.Laws.{ahead, step-ends, step-reserved, step-passes}
use Rattle.columns.proofs.Cursor.step.Goals as goal

pub returns-in_default : goal.returns-in_default
returns-in_default c =
    let read = rw (c.limit_of.ensures, c.between-types.ensures) at c.read.ensures in
    sym (step-ends c.args.self c.args.s.now (sym read ∙ c.in_default.is))

pub returns-in_err-width : goal.returns-in_err-width
returns-in_err-width c =
    let a = c.args in
    let read = rw (c.limit_of.ensures, c.between-types.ensures) at c.read.ensures in
    let typed = sym read ∙ c.in-Ok.is in
    rw c.from_residual.ensures (sym (step-reserved a.self a.s.now typed (sym c.width_of.ensures ∙ c.in_err-width.was)))

pub pass-requires : goal.pass-requires
pass-requires c =
    let a = c.args in
    let read = rw (c.limit_of.ensures, c.between-types.ensures) at c.read.ensures in
    let typed = sym read ∙ c.in-Ok.is in
    let w = rw (length-take, length-drop) at (length-bounds (ahead a.self a.s.now) (limit a.self.reading) typed) in
    omega (arith, w.0, w.2)

pub returns : goal.returns
returns c =
    let a = c.args in
    let read = rw (c.limit_of.ensures, c.between-types.ensures) at c.read.ensures in
    let typed = sym read ∙ c.in-Ok.is in
    c.pass.ensures ∙ sym (step-passes a.self a.s.now typed (sym c.width_of.ensures ∙ c.in_ok-width.was))
