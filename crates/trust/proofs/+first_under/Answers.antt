-- The page that is gone along is an interior one; each turn passes the rows of a child that are all shown.
use Prim.Native.Nat.{◌-◌}
use mathlib.Core.Path.{sym, ap, ◌∙◌}
use native.Mathlib.Nat.{sub-zero}
use Rattle.standing.specs.Rows.{all_rows}
use Rattle.standing.proofs.Steps.{rows_none, rows-page}
use Rattle.trust.specs.Trust.{first_refused}
use Rattle.trust.proofs.Firsts.{child-refused, child-shown, child-done, leaf-named}
use Rattle.trust.proofs.+first_under.Goals as goal

pub returns-then-depth-eq0 : goal.returns-then-depth-eq0
returns-then-depth-eq0 t c = let a = c.args in sym (ap (first_refused a.db.now) (rows_none a.depth a.db.now a.page c.if-depth-eq0.true))

pub returns-in-Err : goal.returns-in-Err
returns-in-Err t c = let a = c.args in sym (ap (first_refused a.db.now) (rows-page a.depth a.db.now a.page c.if-depth-eq0.false (sym c.in-Err.ensures)))

pub first_of-requires : goal.first_of-requires
first_of-requires t c = let a = c.args in leaf-named a.db.now a.page (rw c.in-Ok-Leaf.field-0-is at (sym c.in-Ok-Leaf.ensures))

pub returns-in-Ok-Leaf : goal.returns-in-Ok-Leaf
returns-in-Ok-Leaf t c =
    let a = c.args in
    c.first_of.ensures ∙ sym (ap (first_refused a.db.now) (rows-page a.depth a.db.now a.page c.if-depth-eq0.false (rw c.in-Ok-Leaf.field-0-is at (sym c.in-Ok-Leaf.ensures))))

pub loop-i-init : goal.loop-i-init
loop-i-init t c =
    let a = c.args in
    rw sub-zero (sym (ap (first_refused a.db.now) (rows-page a.depth a.db.now a.page c.if-depth-eq0.false (rw c.in-Ok-Interior.field-0-is at (sym c.in-Ok-Interior.ensures)))))

pub returns-in-Some : goal.returns-in-Some
returns-in-Some t c =
    let a = c.args in
    let o = c.in-Ok-Interior.opened in
    let child = rw c.child_in-child.ensures at c.in-Some.ensures in
    sym (child-refused a.db.now (all_rows (a.depth - 1) a.db.now) o o.cells c.loop-i.i c.loop-i-test.true (sym child)) ∙ c.loop-i.invariant

pub loop-i-preserved : goal.loop-i-preserved
loop-i-preserved t c =
    let a = c.args in
    let o = c.in-Ok-Interior.opened in
    let child = rw c.child_in-child.ensures at c.in_default.ensures in
    sym (child-shown a.db.now (all_rows (a.depth - 1) a.db.now) o o.cells c.loop-i.i c.loop-i-test.true (sym child)) ∙ c.loop-i.invariant

pub returns-after-loop-i : goal.returns-after-loop-i
returns-after-loop-i t c =
    let a = c.args in
    let o = c.in-Ok-Interior.opened in
    rw c.last_child.ensures at c.first_under-in-Ok-Interior.ensures
    ∙ sym (child-done a.db.now (all_rows (a.depth - 1) a.db.now) o o.cells c.loop-i.i c.loop-i-test.false) ∙ c.loop-i.invariant
