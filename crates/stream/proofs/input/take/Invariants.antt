-- Each turn leaves less to lose.
use Rattle.stream.proofs.input.take.Given as goal

abbrev pub decreases-loop-db : goal.decreases-loop-db
decreases-loop-db g l = l.left
