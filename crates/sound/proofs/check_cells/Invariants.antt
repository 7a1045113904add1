-- At every turn the cells to come are as sound as all of them are.
use Prim.Native.Nat.{◌-◌}
use mathlib.Core.Path.{◌≡◌}
use Rattle.sound.specs.Cells.{cells_from}
use Rattle.sound.proofs.check_cells.Given as goal

abbrev pub invariant-loop-i : goal.invariant-loop-i
invariant-loop-i l = cells_from l.opened l.db l.i (l.opened.cells - l.i) ≡ cells_from l.opened l.db 0 l.opened.cells
