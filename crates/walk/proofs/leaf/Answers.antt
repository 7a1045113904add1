-- Each turn is a step of the definition.
use mathlib.Core.Path.{sym, ap, ◌∙◌}
use native.Mathlib.Omega.{arith}
use mir.Syntax.{w64}
use mir.Val.{to_z, of_z, SFits}
use mir.Facts.{to_z-of_z}
use borrow.Author.Rules.{rules}
use Rattle.std.proofs.lemmas.Result.{err_from_is_err_and}
use Rattle.trace.specs.Tree.{state}
use Rattle.trace.specs.Counted.{counted}
use Rattle.trace.proofs.Steps.{one-more, leaf-out, leaf-on, leaf-end}
use Rattle.walk.proofs.leaf.Goals as goal

pub returns-in_err-key_placed : goal.returns-in_err-key_placed
returns-in_err-key_placed c =
    let a = c.args in
    let k = c.loop-i in
    let p = err_from_is_err_and c.from_residual.result c.from_residual.ensures.1 in
    rw (p.1, p.2)
    (rw (to_z-of_z {w = w64} c.ranges.most) at (sym (ap (counted k.n) (leaf-out a.opened a.db.now (to_z w64 (of_z w64 a.most)) a.opened.cells k.i c.loop-i-test.true (state a.state.visits k.low)
    (sym c.in_err-key_placed.ensures))) ∙ k.invariant.rest))

pub loop-i-preserved : goal.loop-i-preserved
loop-i-preserved c =
    let a = c.args in
    let k = c.loop-i in
    let fits : SFits w64 c.in_ok-key_placed.field-0 = record { sfits = search rules } in
    record {
      counts = omega arith;
      rest = rw (c.saturating_add-n.ensures, one-more k.n k.invariant.counts, to_z-of_z fits)
          (sym (ap (counted k.n) (leaf-on a.opened a.db.now (to_z w64 (of_z w64 a.most)) a.opened.cells k.i c.loop-i-test.true (state a.state.visits k.low)
          (sym c.in_ok-key_placed.ensures))) ∙ k.invariant.rest);
    }

pub returns : goal.returns
returns c =
    let a = c.args in
    let k = c.loop-i in
    rw (to_z-of_z {w = w64} c.ranges.most) at (sym (ap (counted k.n) (leaf-end a.opened a.db.now (to_z w64 (of_z w64 a.most)) a.opened.cells k.i c.loop-i-test.false (state a.state.visits k.low))) ∙ k.invariant.rest)
