-- The digits from `at` on are those that are written, and one less would have been too few.
use Rattle.std.proofs.Common.{◌≤◌, ◌<◌, ◌-◌, ◌^◌, drop}
use Rattle.print.proofs.Spelling.{Spelt}
use Rattle.print.proofs.digits.decimal.Given as goal

abbrev pub invariant-loop-rest : goal.invariant-loop-rest
invariant-loop-rest l = record {
  within : l.at ≤ 19;
  spelt : Spelt 10 l.n (20 - l.at) l.rest (drop l.at l.out);
  least : 1 < 20 - l.at → 10 ^ (20 - l.at - 1) ≤ l.n;
}

abbrev pub decreases-loop-rest : goal.decreases-loop-rest
decreases-loop-rest l = l.rest
