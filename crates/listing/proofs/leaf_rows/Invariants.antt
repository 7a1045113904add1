-- Each turn stores the row that comes next.
use Prim.Native.Nat.{◌-◌}
use Rattle.standing.specs.Rows.{leaf_rows}
use Rattle.listing.proofs.Storing.{Held}
use Rattle.listing.proofs.leaf_rows.Given as goal

abbrev pub invariant-loop-i : goal.invariant-loop-i
invariant-loop-i l = Held l.fn.list l.at (leaf_rows l.opened l.db l.opened.cells 0) l.list l.next (leaf_rows l.opened l.db (l.opened.cells - l.i) l.i)
