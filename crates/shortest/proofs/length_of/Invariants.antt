-- At every turn the digits counted and those of what is in front of them make up the length.
use Prim.Native.Nat.{◌+◌, ◌-◌, ◌^◌, ◌≤◌, ◌<◌}
use mathlib.Core.Path.{◌≡◌}
use lib.ListN.{length}
use Rattle.shortest.specs.Shortest.{digits, encode}
use Rattle.shortest.proofs.length_of.Given as goal

abbrev pub invariant-loop-front : goal.invariant-loop-front
invariant-loop-front l =
    (l.n ≤ 8) × (l.front < 128 ^ (8 - l.n)) × (l.n + digits (8 - l.n) l.front ≡ length (encode l.value))

abbrev pub decreases-loop-front : goal.decreases-loop-front
decreases-loop-front l = l.front
