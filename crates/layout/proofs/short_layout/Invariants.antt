-- At every turn, how the rest of the values lie in the rest of the bytes is how all of them lie; and no type so far is a mark.
use Rattle.layout.proofs.Types.{Gone}
use Rattle.layout.proofs.short_layout.Given as goal

abbrev pub invariant-loop-byte : goal.invariant-loop-byte
invariant-loop-byte l = Gone l.guarded l.room l.t l.byte-index l.left
