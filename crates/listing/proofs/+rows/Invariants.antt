-- The measure of a call is the depth that is left. Each turn stores the rows of the child that comes next.
use Prim.Native.Nat.{◌-◌}
use Rattle.standing.specs.Rows.{child_rows, all_rows}
use Rattle.listing.proofs.Storing.{Held}
use Rattle.listing.proofs.+rows.Given as goal

abbrev pub decreases-rows : goal.decreases-rows
decreases-rows l = l.depth

abbrev pub invariant-loop-i : goal.invariant-loop-i
invariant-loop-i l = Held l.fn.list l.at (all_rows l.depth l.db l.page) l.list l.next (child_rows (all_rows (l.depth - 1) l.db) l.opened l.db (l.opened.cells - l.i) l.i)
