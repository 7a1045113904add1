-- After i turns the first i entries stand from place `from` on, and the rest of the table is as it was.
use Rattle.std.proofs.Common.{◌≡◌}
use Rattle.lent.specs.Filling.{filled_from}
use Rattle.lent.proofs.fill.Given as goal

abbrev pub invariant-loop-i : goal.invariant-loop-i
invariant-loop-i l = l.table ≡ filled_from l.from l.opening l.db l.i l.initial.table
