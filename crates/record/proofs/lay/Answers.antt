-- At every turn, how the rest of the values lie in the rest of the bytes is how all of them lie.
use mathlib.Core.Path.{refl, sym, ap, ◌∙◌}
use native.Mathlib.Omega.{arith}
use Rattle.record.specs.Types.{walk}
use Rattle.record.proofs.Laws.{read_at, room_at, types-at, types-break, types-end, walk-reserved, walk-passes, walk-on}
use borrow.Author.Rules.{rules}
use Rattle.record.proofs.lay.Goals as goal

pub loop-at-init : goal.loop-at-init
loop-at-init c = (search rules, search rules, refl)

pub returns-then-left-width : goal.returns-then-left-width
returns-then-left-width c =
    let a = c.args in
    let h = c.loop-at in
    let e = read_at a.limit a.t.now h.at c.read.ensures c.in-Ok.is in
    sym (walk-passes _ _ _ _ _ (sym c.width_of.ensures ∙ c.in-Some.is) c.if-left-width.true)
    ∙ sym (ap (walk h.col h.left) (types-at a.limit a.t.now h.at e)) ∙ h.invariant.2

pub overflow_add-at : goal.overflow_add-at
overflow_add-at c =
    let a = c.args in
    let h = c.loop-at in
    omega (arith, room_at a.limit a.t.now h.at h.invariant.1 (read_at a.limit a.t.now h.at c.read.ensures c.in-Ok.is))

pub overflow_add-col : goal.overflow_add-col
overflow_add-col c =
    let a = c.args in
    let h = c.loop-at in
    omega (arith, room_at a.limit a.t.now h.at h.invariant.1 (read_at a.limit a.t.now h.at c.read.ensures c.in-Ok.is))

pub loop-at-smaller : goal.loop-at-smaller
loop-at-smaller c =
    let a = c.args in
    let h = c.loop-at in
    omega (arith, room_at a.limit a.t.now h.at h.invariant.1 (read_at a.limit a.t.now h.at c.read.ensures c.in-Ok.is))

pub loop-at-preserved : goal.loop-at-preserved
loop-at-preserved c =
    let a = c.args in
    let h = c.loop-at in
    let e = read_at a.limit a.t.now h.at c.read.ensures c.in-Ok.is in
    let room = room_at a.limit a.t.now h.at h.invariant.1 e in (
      omega (arith, room),
      room.1,
      sym (walk-on _ _ _ _ _ (sym c.width_of.ensures ∙ c.in-Some.is) c.if-left-width.false)
          ∙ sym (ap (walk h.col h.left) (types-at a.limit a.t.now h.at e)) ∙ h.invariant.2,
    )

pub returns-in_default-width_of : goal.returns-in_default-width_of
returns-in_default-width_of c =
    let a = c.args in
    let h = c.loop-at in
    let e = read_at a.limit a.t.now h.at c.read.ensures c.in-Ok.is in
    sym (walk-reserved _ _ _ _ (sym c.width_of.ensures ∙ c.in_default-width_of.is))
    ∙ sym (ap (walk h.col h.left) (types-at a.limit a.t.now h.at e)) ∙ h.invariant.2

pub returns-in_default : goal.returns-in_default
unfolding walk
returns-in_default c =
    let a = c.args in
    let h = c.loop-at in
    let e = read_at a.limit a.t.now h.at c.read.ensures c.in_default.is in
    sym (ap (walk h.col h.left) (types-break a.limit a.t.now h.at c.loop-at-test.true e)) ∙ h.invariant.2

pub returns : goal.returns
unfolding walk
returns c =
    let a = c.args in
    let h = c.loop-at in
    sym (ap (walk h.col h.left) (types-end a.limit a.t.now h.at c.loop-at-test.false)) ∙ h.invariant.2
