-- At every turn, what is gathered are the sort and the digits of the bytes so far.
use Rattle.std.proofs.Common.{◌≡◌, ◌++◌, take}
use Rattle.print.specs.Hex.{hex_of}
use Rattle.print.specs.Gathered.{gathered, puts}
use Rattle.print.proofs.out.long.Given as goal

abbrev pub invariant-loop-i : goal.invariant-loop-i
invariant-loop-i g l = gathered l.out l.n ≡ puts (l.sort ++ hex_of (take l.i l.s)) (gathered l.fn.out l.at)
