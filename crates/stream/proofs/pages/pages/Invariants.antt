-- Each turn leaves a page less.
use Rattle.std.proofs.Common.{◌-◌}
use Rattle.stream.proofs.pages.pages.Given as goal

abbrev pub decreases-loop-number : goal.decreases-loop-number
decreases-loop-number g l = 4294967295 - l.number
