-- The measure of a call is the depth that is left. The loop: the definition from here is the definition from the start.
use Prim.Native.Nat.{◌-◌}
use mathlib.Core.Path.{◌≡◌}
use Rattle.trace.specs.Tree.{state, children_of, walk_of}
use Rattle.trace.specs.Counted.{counted}
use Rattle.walk.proofs.+walk.Given as goal

abbrev pub decreases-walk : goal.decreases-walk
decreases-walk l = l.depth

abbrev pub invariant-loop-i : goal.invariant-loop-i
invariant-loop-i l =
    counted l.n (children_of (walk_of (l.depth - 1) l.db) l.opened l.db l.most (l.opened.cells - l.i) l.i (state l.visits l.low))
    ≡ counted l.count (walk_of l.depth l.db l.page l.most l.fn.state)
