-- Column by column: each is there, since the row was checked.
use Prim.Native.Nat.{◌<◌}
use mathlib.Core.Path.{◌≡◌, ◌∙◌, ap}
use native.Mathlib.Omega.{arith}
use Rattle.checked.specs.Past.{past_of}
use Rattle.screen.proofs.Columns.{before-first, coming, type-ends, value-ends, before-next}
use Rattle.screen.proofs.rows.past.Goals as goal

pub loop-passed-init : goal.loop-passed-init
loop-passed-init c = before-first c.requires.whole

pub type_at-requires : goal.type_at-requires
type_at-requires c = coming c.loop-passed.invariant (omega arith)

pub moved-here-requires : goal.moved-here-requires
moved-here-requires c =
    let b = c.loop-passed.invariant in
    let m : c.loop-passed._passed < c.args.columns = omega arith in
    let t = type-ends b m c.type_at.ensures in
    let v = value-ends b m c.type_at.ensures in
    record { type_ends = omega (arith, t, b.left.header); value_ends = omega (arith, v, b.left.within) }

pub loop-passed-preserved : goal.loop-passed-preserved
loop-passed-preserved c = before-next c.loop-passed.invariant (omega arith) c.type_at.ensures c.moved-here.ensures

pub returns : goal.returns
returns c =
    let l = c.loop-passed in
    let a = c.args in
    let all : l._passed ≡ a.k = omega arith in
    l.invariant.is ∙ ap (λ n. past_of n a.first a.db.now) all
