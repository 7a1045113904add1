-- The digits from `at` on are those that are written.
use Rattle.std.proofs.Common.{◌≤◌, ◌-◌, drop}
use Rattle.print.proofs.Spelling.{Spelt}
use Rattle.print.proofs.digits.hexadecimal.Given as goal

abbrev pub invariant-loop-at : goal.invariant-loop-at
invariant-loop-at l = record {
  within : l.at ≤ 16;
  spelt : Spelt 16 l.n (16 - l.at) l.rest (drop l.at l.out);
}

abbrev pub decreases-loop-at : goal.decreases-loop-at
decreases-loop-at l = l.at
