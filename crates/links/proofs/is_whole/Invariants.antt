-- Each page hands the chain on to the next one.
use mathlib.Core.Path.{◌≡◌}
use Prim.Native.Nat.{◌-◌}
use Rattle.links.specs.Links.{chain_of}
use Rattle.links.specs.Whole.{whole}
use Rattle.links.proofs.is_whole.Given as goal

abbrev pub invariant-loop-link : goal.invariant-loop-link
invariant-loop-link l =
    whole (chain_of (l.links - l._link) l.shape l.number l.db) ≡ whole (chain_of l.links l.shape l.first l.db)
