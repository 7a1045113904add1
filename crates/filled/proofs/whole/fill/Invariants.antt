-- The values so far with those to come are the run from the first cursor on, and those to come are all there.
use Prim.Native.Nat.{◌/◌}
use lib.ListN.{length}
use Rattle.run.proofs.Filling.{Held}
use Rattle.checked.proofs.Laws.{Left}
use Rattle.filled.proofs.whole.fill.Given as goal

abbrev pub invariant-loop-n : goal.invariant-loop-n
invariant-loop-n l =
    Held (length l.initial.table / 5) l.initial.here l.db l.initial.table l.table l.here l.n
    × Left l.reading l.columns l.db l.here l.n
