-- The values so far with those to come are the run from the first cursor on.
use Rattle.run.proofs.Filling.{Held}
use Rattle.run.proofs.fill.Given as goal

abbrev pub invariant-loop-n : goal.invariant-loop-n
invariant-loop-n l = Held l.places l.initial.here l.db l.initial.table l.table l.here l.n
