-- Column by column: each is there, since the row was checked.
use Rattle.screen.proofs.Columns.{Before}
use Rattle.screen.proofs.rows.past.Given as goal

abbrev pub invariant-loop-passed : goal.invariant-loop-passed
invariant-loop-passed l = Before l.initial.here l.columns l.db l.here l._passed
