-- Each page's content is laid behind what is there, and the rest of the chain behind it.
use Prim.Native.Nat.{◌-◌}
use lib.ListN.{length}
use Rattle.chain.proofs.Following.{Going, ahead}
use Rattle.chain.proofs.follow.Given as goal

abbrev pub invariant-loop-link : goal.invariant-loop-link
invariant-loop-link l =
    Going l.shape l.db l.size (length l.initial.buffer) (ahead l.shape l.db l.size l.links l.first l.at l.initial.buffer) (l.links - l._link) l.number l.here l.buffer
