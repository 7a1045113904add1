-- Each turn stores the rows of the child that comes next.
use Prim.Native.Nat.{◌+◌, ◌-◌}
use mathlib.Core.Path.{refl, sym}
use native.Mathlib.Nat.{sub-zero}
use native.Mathlib.Omega.{arith}
use Rattle.cells.specs.Numbered.{numbers_in}
use Rattle.standing.specs.Rows.{child_by, child_rows, all_rows}
use Rattle.standing.proofs.Steps.{child-next, child-last, rows_none, rows-page}
use Rattle.listing.proofs.Storing.{held, held_on, held-last, held-room, held-last-room}
use Rattle.listing.proofs.+rows.Goals as goal

pub returns-then-depth-eq0 : goal.returns-then-depth-eq0
returns-then-depth-eq0 t c = let a = c.args in rw (rows_none a.depth a.db.now a.page c.if-depth-eq0.true) (record { answer = omega arith; list = refl })

pub returns-in-Err : goal.returns-in-Err
returns-in-Err t c =
    let a = c.args in
    rw (rows-page a.depth a.db.now a.page c.if-depth-eq0.false (sym c.in-Err.ensures)) (record { answer = omega arith; list = refl })

pub leaf_rows-requires : goal.leaf_rows-requires
leaf_rows-requires t c =
    let a = c.args in
    rw (rows-page a.depth a.db.now a.page c.if-depth-eq0.false (rw c.in-Ok-Leaf.field-0-is at (sym c.in-Ok-Leaf.ensures))) at c.requires

pub returns-in-Ok-Leaf : goal.returns-in-Ok-Leaf
returns-in-Ok-Leaf t c =
    let a = c.args in
    rw (rows-page a.depth a.db.now a.page c.if-depth-eq0.false (rw c.in-Ok-Leaf.field-0-is at (sym c.in-Ok-Leaf.ensures)))
    (record { answer = c.leaf_rows.ensures.answer; list = c.leaf_rows.ensures.list })

pub loop-i-init : goal.loop-i-init
loop-i-init t c =
    let a = c.args in
    rw (rows-page a.depth a.db.now a.page c.if-depth-eq0.false (rw c.in-Ok-Interior.field-0-is at (sym c.in-Ok-Interior.ensures)), sub-zero) (held _ _ _)

-- the room for the child that comes next
pub rows-next-requires : goal.rows-next-requires
rows-next-requires t c =
    let a = c.args in
    let o = c.in-Ok-Interior.opened in
    let under = all_rows (a.depth - 1) a.db.now in
    let i = c.loop-i.i in
    let coming = rw (child-next o a.db.now o.cells i under c.loop-i-test.true) at c.loop-i.invariant in
    (omega arith, rw c.child_in.ensures (held-room (under (child_by (numbers_in o i a.db.now))) (child_rows under o a.db.now (o.cells - (i + 1)) (i + 1)) coming c.requires))

pub loop-i-preserved : goal.loop-i-preserved
loop-i-preserved t c =
    let a = c.args in
    let o = c.in-Ok-Interior.opened in
    let under = all_rows (a.depth - 1) a.db.now in
    let i = c.loop-i.i in
    let coming = rw (child-next o a.db.now o.cells i under c.loop-i-test.true) at c.loop-i.invariant in
    let e = rw c.child_in.ensures at c.rows-next.ensures in
    held_on (under (child_by (numbers_in o i a.db.now))) (child_rows under o a.db.now (o.cells - (i + 1)) (i + 1)) coming e.answer e.list

pub rows-requires : goal.rows-requires
rows-requires t c =
    let a = c.args in
    let o = c.in-Ok-Interior.opened in
    let last = rw (child-last o a.db.now o.cells c.loop-i.i (all_rows (a.depth - 1) a.db.now) c.loop-i-test.false) at c.loop-i.invariant in
    (omega arith, rw c.last_child.ensures (held-last-room last c.requires))

pub returns-after-loop-i : goal.returns-after-loop-i
returns-after-loop-i t c =
    let a = c.args in
    let o = c.in-Ok-Interior.opened in
    let last = rw (child-last o a.db.now o.cells c.loop-i.i (all_rows (a.depth - 1) a.db.now) c.loop-i-test.false) at c.loop-i.invariant in
    let e = rw c.last_child.ensures at c.rows.ensures in
    let p = held-last last e.answer e.list in
    record { answer = p.0; list = p.1 }
