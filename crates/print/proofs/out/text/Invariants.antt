-- At every turn, what is gathered are the bytes so far.
use Rattle.std.proofs.Common.{◌≡◌, take}
use Rattle.print.specs.Gathered.{gathered, puts}
use Rattle.print.proofs.out.text.Given as goal

abbrev pub invariant-loop-i : goal.invariant-loop-i
invariant-loop-i g l = gathered l.out l.n ≡ puts (take l.i l.s) (gathered l.fn.out l.at)
