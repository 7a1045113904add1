-- Each turn leaves a database less.
use Rattle.std.proofs.Common.{◌-◌}
use Rattle.stream.proofs.databases.Given as goal

abbrev pub decreases-loop-index : goal.decreases-loop-index
decreases-loop-index g l = 18446744073709551615 - l.index
