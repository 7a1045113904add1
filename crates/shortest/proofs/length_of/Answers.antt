-- At every turn the digits counted and those of what is in front of them make up the length.
use Prim.Native.Nat.{◌-◌}
use mathlib.Core.Path.{sym, ◌∙◌}
use native.Mathlib.Omega.{arith}
use Rattle.shortest.proofs.Digits.{digits-zero, more_left, less-left, one-counted}
use Rattle.shortest.proofs.Laws.{length-below, length_above}
use borrow.Author.Rules.{rules}
use Rattle.shortest.proofs.length_of.Goals as goal

pub returns-then-value-ge-NINE_BYTES : goal.returns-then-value-ge-NINE_BYTES
returns-then-value-ge-NINE_BYTES c = sym (length_above _ c.if-value-ge-NINE_BYTES.true)

pub loop-front-init : goal.loop-front-init
loop-front-init c =
    let e = length-below c.args.value c.if-value-ge-NINE_BYTES.false in
    (search rules, omega (arith, c.if-value-ge-NINE_BYTES.false), omega arith)

pub loop-front-preserved : goal.loop-front-preserved
loop-front-preserved c =
    let h = c.loop-front in
    let some = c.loop-front-test.true in (
      more_left h.n h.front some h.invariant.1,
      less-left h.n h.front some h.invariant.1,
      one-counted h.n h.front some h.invariant.1 ∙ h.invariant.2,
    )

pub returns : goal.returns
returns c =
    let h = c.loop-front in
    let z = digits-zero (8 - h.n) h.front (search rules) in
    omega (arith, h.invariant.2, z)
