-- Each turn stores the row that comes next.
use Prim.Native.Nat.{◌+◌, ◌-◌}
use mathlib.Core.Path.{refl, ◌∙◌}
use mathlib.Core.List.{[], ◌∷◌}
use native.Mathlib.Omega.{arith}
use mir.Syntax.{w64}
use mir.Facts.{to_z-of_z}
use Rattle.standing.specs.Rows.{row_at, leaf_rows}
use Rattle.standing.proofs.Steps.{leaf-next, leaf-none}
use Rattle.listing.proofs.Storing.{held_on}
use Rattle.listing.proofs.leaf_rows.Goals as goal

pub put-requires : goal.put-requires
put-requires c =
    -- the list with the row that comes next
    let a = c.args in
    let h = rw (leaf-next a.opened a.db.now a.opened.cells c.loop-i.i c.loop-i-test.true) at c.loop-i.invariant in
    omega (arith, h.long, h.place)

pub loop-i-preserved : goal.loop-i-preserved
loop-i-preserved c =
    let a = c.args in
    let h = rw (leaf-next a.opened a.db.now a.opened.cells c.loop-i.i c.loop-i-test.true) at c.loop-i.invariant in
    let r = c.number_in in
    let number = to_z-of_z {w = w64} (record { sfits = r.type_inv }) ∙ r.ensures in
    held_on (row_at a.opened a.db.now c.loop-i.i ∷ []) (leaf_rows a.opened a.db.now (a.opened.cells - (c.loop-i.i + 1)) (c.loop-i.i + 1)) h refl (c.put.ensures ∙ rw number)

pub returns : goal.returns
returns c =
    let a = c.args in
    let h = rw (leaf-none a.opened a.db.now a.opened.cells c.loop-i.i c.loop-i-test.false) at c.loop-i.invariant in
    record { answer = omega (arith, h.place); list = h.is }
