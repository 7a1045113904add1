-- At every turn the types to come end as all of them do.
use Prim.Native.Nat.{◌-◌, ◌≤◌}
use mathlib.Core.Path.{◌≡◌}
use lib.ListN.{length, drop}
use Rattle.record.specs.Types.{types_of, ended}
use Rattle.record.proofs.types_end.Given as goal

abbrev pub invariant-loop-at : goal.invariant-loop-at
invariant-loop-at l = (l.at ≤ length l.t) × (ended (types_of l.limit (drop l.at l.t)) ≡ ended (types_of l.limit l.t))

abbrev pub decreases-loop-at : goal.decreases-loop-at
decreases-loop-at l = length l.t - l.at
