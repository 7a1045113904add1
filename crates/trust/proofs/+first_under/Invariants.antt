-- The measure of a call is the depth that is left. Each turn passes the rows of a child that are all shown.
use Prim.Native.Nat.{◌-◌}
use mathlib.Core.Path.{◌≡◌}
use Rattle.standing.specs.Rows.{child_rows, all_rows}
use Rattle.trust.specs.Trust.{first_refused}
use Rattle.trust.proofs.+first_under.Given as goal

abbrev pub decreases-first_under : goal.decreases-first_under
decreases-first_under l = l.depth

abbrev pub invariant-loop-i : goal.invariant-loop-i
invariant-loop-i l =
    first_refused l.db (child_rows (all_rows (l.depth - 1) l.db) l.opened l.db (l.opened.cells - l.i) l.i)
    ≡ first_refused l.db (all_rows l.depth l.db l.page)
