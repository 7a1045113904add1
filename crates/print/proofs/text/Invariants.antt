-- At every turn the bytes before `at` are written; each turn leaves less to write.
use Rattle.std.proofs.Common.{◌≤◌, ◌-◌, length, take}
use Rattle.std.specs.Io.KnownBytes.{Appends}
use Rattle.print.proofs.text.Given as goal

abbrev pub invariant-loop-at : goal.invariant-loop-at
invariant-loop-at g l = record {
  within : l.at ≤ length l.s;
  written : Appends (g.W.Write.contents l.initial.to) (g.W.Write.contents l.to) (take l.at l.s);
}

abbrev pub decreases-loop-at : goal.decreases-loop-at
decreases-loop-at g l = length l.s - l.at
