-- At every turn, how the rest of the values lie in the rest of the bytes is how all of them lie.
use Prim.Native.Nat.{◌-◌, ◌≤◌}
use mathlib.Core.Path.{◌≡◌}
use lib.ListN.{length, drop}
use Rattle.record.specs.Types.{types_of, walk}
use Rattle.record.proofs.lay.Given as goal

abbrev pub invariant-loop-at : goal.invariant-loop-at
invariant-loop-at l =
    (l.col ≤ l.at) × (l.at ≤ length l.t) × (walk l.col l.left (types_of l.limit (drop l.at l.t)) ≡ walk 0 l.room (types_of l.limit l.t))

abbrev pub decreases-loop-at : goal.decreases-loop-at
decreases-loop-at l = length l.t - l.at
