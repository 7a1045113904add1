-- Each turn leaves a value less.
use Rattle.stream.proofs.along.values.Given as goal

abbrev pub decreases-loop-left : goal.decreases-loop-left
decreases-loop-left g l = l.left
