-- At every turn, what was found with what the types to come hold is what all of them hold.
use mathlib.Core.Path.{◌≡◌}
use mathlib.Core.Bool.{◌||◌}
use lib.ListN.{length}
use Rattle.record.specs.Types.{types_of}
use Rattle.marks.specs.Marks.{some, long_type, stored_one, empty_value, long_varint}
use Rattle.marks.proofs.mark_of.Given as goal

abbrev pub invariant-loop-rest : goal.invariant-loop-rest
invariant-loop-rest l = record {
  longs : (l.long || some long_type (types_of l.limit l.rest)) ≡ long_varint l.size l.row l.header (types_of l.limit l.types);
  ones : (l.one || some stored_one (types_of l.limit l.rest)) ≡ some stored_one (types_of l.limit l.types);
  empties : (l.empty || some empty_value (types_of l.limit l.rest)) ≡ some empty_value (types_of l.limit l.types);
}

abbrev pub decreases-loop-rest : goal.decreases-loop-rest
decreases-loop-rest l = length l.rest
