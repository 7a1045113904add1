-- Each turn passes a type in its shortest form.
use mathlib.Core.Path.{◌≡◌}
use lib.ListN.{length}
use Rattle.record.specs.Types.{types_of}
use Rattle.shortest_cells.specs.Cells.{each_shortest}
use Rattle.shortest_cells.proofs.each_shortest.Given as goal

abbrev pub invariant-loop-serial : goal.invariant-loop-serial
invariant-loop-serial l = each_shortest (types_of l.limit l.rest) ≡ each_shortest (types_of l.limit l.types)

abbrev pub decreases-loop-serial : goal.decreases-loop-serial
decreases-loop-serial l = length l.rest
