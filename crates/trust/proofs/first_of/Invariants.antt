-- Each turn passes a row that the guarded reading shows.
use Prim.Native.Nat.{◌-◌}
use mathlib.Core.Path.{◌≡◌}
use Rattle.standing.specs.Rows.{leaf_rows}
use Rattle.trust.specs.Trust.{first_refused}
use Rattle.trust.proofs.first_of.Given as goal

abbrev pub invariant-loop-i : goal.invariant-loop-i
invariant-loop-i l = first_refused l.db (leaf_rows l.opened l.db (l.opened.cells - l.i) l.i) ≡ first_refused l.db (leaf_rows l.opened l.db l.opened.cells 0)
