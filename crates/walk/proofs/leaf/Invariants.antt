-- Each turn is a step of the definition.
use Prim.Native.Nat.{◌-◌, ◌≤◌}
use mathlib.Core.Path.{◌≡◌}
use Rattle.trace.specs.Tree.{state, leaf_of}
use Rattle.trace.specs.Counted.{counted}
use Rattle.walk.proofs.leaf.Given as goal

abbrev pub invariant-loop-i : goal.invariant-loop-i
invariant-loop-i l = record {
  counts : l.n ≤ 18446744073709551615;
  rest : counted l.n (leaf_of l.opened l.db l.most (l.opened.cells - l.i) l.i (state l.state.visits l.low)) ≡ counted l.count (leaf_of l.opened l.db l.most l.opened.cells 0 l.state);
}
