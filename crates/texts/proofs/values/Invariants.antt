-- At every turn, what is gathered so far and the text of the values to come are the whole.
use Rattle.print.specs.Gathered.{gathered}
use Rattle.texts.specs.Row.{values_text}
use Rattle.texts.proofs.Along.{PutSoFar}
use Rattle.texts.proofs.values.Given as goal

abbrev pub invariant-loop-left : goal.invariant-loop-left
invariant-loop-left g l = PutSoFar (values_text l.initial.left l.initial.here l.db) (values_text l.left l.here l.db) (gathered l.fn.out l.at) (gathered l.out l.n)

abbrev pub decreases-loop-left : goal.decreases-loop-left
decreases-loop-left g l = l.left
