-- Page by page, until no address is left.
use Prim.Native.Nat.{◌-◌, ◌≤◌}
use mathlib.Core.Path.{◌≡◌}
use lib.ListN.{length}
use Rattle.addresses.specs.Screen.{answer_to}
use Rattle.addresses.specs.Turns.{rest}
use Rattle.screen.proofs.screen.Given as goal

abbrev pub invariant-loop-i : goal.invariant-loop-i
invariant-loop-i l =
    (l.i ≤ l.count)
    × (length l.answers ≡ length l.initial.answers)
    × (rest (answer_to l.chosen l.db) l.addresses l.i l.answers ≡ rest (answer_to l.chosen l.db) l.addresses 0 l.initial.answers)

abbrev pub decreases-loop-i : goal.decreases-loop-i
decreases-loop-i l = l.count - l.i
