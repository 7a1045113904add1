-- The page that was entered; then each turn is a step of the definition.
use Prim.Native.Nat.{◌-◌}
use mathlib.Core.Path.{sym, ap, ◌∙◌}
use native.Mathlib.Nat.{sub-zero}
use native.Mathlib.Omega.{arith}
use mir.Syntax.{w64}
use mir.Val.{to_z, of_z, SFits}
use mir.Facts.{to_z-of_z}
use borrow.Author.Rules.{rules}
use Rattle.std.proofs.lemmas.Result.{err_from_is_err_and}
use Rattle.trace.specs.Tree.{state, walk_of}
use Rattle.trace.specs.Counted.{counted}
use Rattle.trace.proofs.Steps.{enter-refused, enter-table, children-out, children-stop, children-on, children-end}
use Rattle.walk.proofs.+walk.Goals as goal

pub returns-in_err-table : goal.returns-in_err-table
returns-in_err-table t c =
    let a = c.args in
    let p = err_from_is_err_and c.from_residual.result c.from_residual.ensures.1 in
    rw (p.1, p.2) (sym (enter-refused a.depth a.db.now a.page a.most a.state a.count (sym c.in_err-table.ensures)))

pub overflow_sub-visits : goal.overflow_sub-visits
overflow_sub-visits t c =
    let a = c.args in
    let h = enter-table a.depth a.db.now a.page a.most a.state (sym c.in_ok-table.ensures) in
    h.visits

pub returns-in-Leaf : goal.returns-in-Leaf
returns-in-Leaf t c =
    let a = c.args in
    let h = enter-table a.depth a.db.now a.page a.most a.state (rw c.in-Leaf.is at (sym c.in_ok-table.ensures)) in
    rw (to_z-of_z {w = w64} c.ranges.most) at c.leaf.ensures ∙ sym (ap (counted a.count) h.is)

pub loop-i-init : goal.loop-i-init
loop-i-init t c =
    let a = c.args in
    let h = enter-table a.depth a.db.now a.page (to_z w64 (of_z w64 a.most)) a.state (rw c.in-Interior.is at (sym c.in_ok-table.ensures)) in
    rw sub-zero (sym (ap (counted a.count) h.is))

pub returns-in_err-child : goal.returns-in_err-child
returns-in_err-child t c =
    let a = c.args in
    let k = c.loop-i in
    let o = c.in-Interior.opened in
    let p = err_from_is_err_and c.from_residual-in_err-child.result c.from_residual-in_err-child.ensures.1 in
    rw (p.1, p.2)
    (rw (to_z-of_z {w = w64} c.ranges.most) at (sym (ap (counted k.n) (children-out o a.db.now (to_z w64 (of_z w64 a.most)) o.cells k.i c.loop-i-test.true (state k.visits k.low) (walk_of (a.depth - 1) a.db.now)
    (sym c.in_err-child.ensures))) ∙ k.invariant))

pub overflow_sub-depth : goal.overflow_sub-depth
overflow_sub-depth t c =
    let a = c.args in
    let h = enter-table a.depth a.db.now a.page a.most a.state (sym c.in_ok-table.ensures) in
    h.deep

pub walk-requires : goal.walk-requires
walk-requires t c =
    let a = c.args in
    let h = enter-table a.depth a.db.now a.page a.most a.state (sym c.in_ok-table.ensures) in
    (omega (arith, h.deep), tt)

pub returns-in_err-below : goal.returns-in_err-below
returns-in_err-below t c =
    let a = c.args in
    let k = c.loop-i in
    let o = c.in-Interior.opened in
    let d = c.in_ok-child.field-0 in
    let fits : SFits w64 d.key = record { sfits = search rules } in
    let p = err_from_is_err_and c.from_residual-in_err-below.result c.from_residual-in_err-below.ensures.1 in
    rw (p.1, p.2)
    (rw (to_z-of_z {w = w64} c.ranges.most) at (sym (children-stop o a.db.now (to_z w64 (of_z w64 a.most)) o.cells k.i c.loop-i-test.true (state k.visits k.low) (walk_of (a.depth - 1) a.db.now)
    (sym c.in_ok-child.ensures) k.n (rw (to_z-of_z fits) at (sym c.in_err-below.ensures))) ∙ k.invariant))

pub loop-i-preserved : goal.loop-i-preserved
loop-i-preserved t c =
    let a = c.args in
    let k = c.loop-i in
    let o = c.in-Interior.opened in
    let d = c.in_ok-child.field-0 in
    let fits : SFits w64 d.key = record { sfits = search rules } in
    rw (to_z-of_z fits)
    (sym (children-on o a.db.now (to_z w64 (of_z w64 a.most)) o.cells k.i c.loop-i-test.true (state k.visits k.low) (walk_of (a.depth - 1) a.db.now)
    (sym c.in_ok-child.ensures) k.n (rw (to_z-of_z fits) at (sym c.in_ok-below.ensures))) ∙ k.invariant)

pub overflow_sub-depth-2 : goal.overflow_sub-depth-2
overflow_sub-depth-2 t c =
    let a = c.args in
    let h = enter-table a.depth a.db.now a.page a.most a.state (sym c.in_ok-table.ensures) in
    h.deep

pub walk-requires-2 : goal.walk-requires-2
walk-requires-2 t c =
    let a = c.args in
    let h = enter-table a.depth a.db.now a.page a.most a.state (sym c.in_ok-table.ensures) in
    (omega (arith, h.deep), tt)

pub returns : goal.returns
returns t c =
    let a = c.args in
    let k = c.loop-i in
    let o = c.in-Interior.opened in
    rw (to_z-of_z {w = w64} c.ranges.most) at (rw c.last_child-child.ensures at c.walk-2.ensures
    ∙ sym (ap (counted k.n) (children-end o a.db.now (to_z w64 (of_z w64 a.most)) o.cells k.i c.loop-i-test.false (state k.visits k.low) (walk_of (a.depth - 1) a.db.now)))
    ∙ k.invariant)
