-- At every turn the bytes to come, with those read so far, give what all of them give from the start.
use Prim.Native.Nat.{◌-◌, ◌^◌, ◌≤◌, ◌<◌}
use mathlib.Core.Path.{◌≡◌}
use lib.ListN.{drop}
use Rattle.varint.specs.Varint.{scan}
use Rattle.varint.proofs.read_on.Given as goal

abbrev pub invariant-loop-i : goal.invariant-loop-i
invariant-loop-i l =
    (l.i ≤ 8) × (l.value < 128 ^ l.i) × (scan (l.limit - l.i) l.i l.value (drop l.i l.s) ≡ scan l.limit 0 0 l.s)

abbrev pub decreases-loop-i : goal.decreases-loop-i
decreases-loop-i l = 9 - l.i
