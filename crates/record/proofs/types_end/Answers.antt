-- At every turn the types to come end as all of them do.
use mathlib.Core.Path.{refl, sym, ap, ◌∙◌}
use native.Mathlib.Omega.{arith}
use Rattle.record.specs.Types.{ended}
use Rattle.record.proofs.Laws.{read_at, room_at, types-at, types-break, types-end}
use borrow.Author.Rules.{rules}
use Rattle.record.proofs.types_end.Goals as goal

pub loop-at-init : goal.loop-at-init
loop-at-init c = (search rules, refl)

pub overflow_add-at : goal.overflow_add-at
overflow_add-at c =
    let a = c.args in
    let at = c.loop-at.at in
    let h = c.loop-at.invariant in
    omega (arith, room_at a.limit a.t.now at h.0 (read_at a.limit a.t.now at c.read.ensures c.in-Ok.is))

pub loop-at-smaller : goal.loop-at-smaller
loop-at-smaller c =
    let a = c.args in
    let at = c.loop-at.at in
    let h = c.loop-at.invariant in
    omega (arith, room_at a.limit a.t.now at h.0 (read_at a.limit a.t.now at c.read.ensures c.in-Ok.is))

pub loop-at-preserved : goal.loop-at-preserved
loop-at-preserved c =
    let a = c.args in
    let at = c.loop-at.at in
    let h = c.loop-at.invariant in
    let e = read_at a.limit a.t.now at c.read.ensures c.in-Ok.is in
    ((room_at a.limit a.t.now at h.0 e).1, sym (ap ended (types-at a.limit a.t.now at e)) ∙ h.1)

pub returns-in_default : goal.returns-in_default
returns-in_default c =
    let a = c.args in
    let h = c.loop-at in
    let e = read_at a.limit a.t.now h.at c.read.ensures c.in_default.is in
    sym (ap ended (types-break a.limit a.t.now h.at c.loop-at-test.true e)) ∙ h.invariant.1

pub returns : goal.returns
returns c =
    let a = c.args in
    let h = c.loop-at in
    sym (ap ended (types-end a.limit a.t.now h.at c.loop-at-test.false)) ∙ h.invariant.1
