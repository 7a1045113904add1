-- So many columns on from the cursor here is column k of the first.
use Prim.Native.Nat.{◌-◌}
use mathlib.Core.Path.{◌≡◌}
use Rattle.columns.specs.Columns.{slot_of}
use Rattle.columns.proofs.Cursor.find.Given as goal

abbrev pub invariant-loop-passed : goal.invariant-loop-passed
invariant-loop-passed l = slot_of (l.k - l._passed) l.here l.s ≡ slot_of l.k l.fn.self l.s
