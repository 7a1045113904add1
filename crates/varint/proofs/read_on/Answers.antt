-- At every turn the bytes to come, with those read so far, give what all of them give from the start.
use mathlib.Core.Path.{sym, ◌∙◌}
use native.Mathlib.Omega.{arith}
use Rattle.laws.proofs.Powers.{digit-more}
use Rattle.varint.proofs.Steps.{at-limit, at-end, ninth, last, step}
use Rattle.varint.proofs.read_on.Goals as goal

pub loop-i-preserved : goal.loop-i-preserved
loop-i-preserved c =
    let a = c.args in
    let h = c.loop-i in
    let there = c.in-Some.ensures.lookup.3 in
    let e = c.from-b.ensures ∙ there.1 0 in (
      omega arith,
      digit-more 128 h.i h.invariant.1 (omega arith),
      rw e (sym (step a.limit a.s.now h.i h.value (omega arith) there.0 c.if-i-eq8.false (omega arith)) ∙ h.invariant.2),
    )

pub returns-then-limit-i : goal.returns-then-limit-i
returns-then-limit-i c =
    let a = c.args in
    let h = c.loop-i in
    sym (at-limit a.limit a.s.now h.i h.value c.if-limit-i.true) ∙ h.invariant.2

pub returns-in_default : goal.returns-in_default
returns-in_default c =
    let a = c.args in
    let h = c.loop-i in
    sym (at-end a.limit a.s.now h.i h.value (omega arith) (omega (arith, c.in_default.ensures.lookup.3))) ∙ h.invariant.2

pub returns-then-i-eq8 : goal.returns-then-i-eq8
returns-then-i-eq8 c =
    let a = c.args in
    let h = c.loop-i in
    let there = c.in-Some.ensures.lookup.3 in
    let e = c.from-b.ensures ∙ there.1 0 in
    rw e (sym (ninth a.limit a.s.now h.i h.value (omega arith) there.0 c.if-i-eq8.true) ∙ h.invariant.2)

pub returns-then-b-lt128 : goal.returns-then-b-lt128
returns-then-b-lt128 c =
    let a = c.args in
    let h = c.loop-i in
    let there = c.in-Some.ensures.lookup.3 in
    let e = c.from-b.ensures ∙ there.1 0 in
    rw e (sym (last a.limit a.s.now h.i h.value (omega arith) there.0 c.if-i-eq8.false (omega arith)) ∙ h.invariant.2)
