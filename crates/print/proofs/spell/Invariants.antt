-- At every turn the digits so far, and those of the bytes to come, are the digits of all.
use Rattle.std.proofs.Common.{◌≡◌, ◌≤◌, ◌-◌, ◌*◌, ◌++◌, length, take, drop}
use Rattle.print.specs.Hex.{hex_of}
use Rattle.print.proofs.spell.Given as goal

abbrev pub invariant-loop-i : goal.invariant-loop-i
invariant-loop-i l = record {
  within : l.i ≤ length l.s;
  wide : length l.out ≡ length l.initial.out;
  spelt : take (2 * l.i) l.out ++ hex_of (drop l.i l.s) ≡ hex_of l.s;
}

abbrev pub decreases-loop-i : goal.decreases-loop-i
decreases-loop-i l = length l.s - l.i
