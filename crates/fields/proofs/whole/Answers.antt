-- The bytes read so far and those to come spell the same number at every turn.
use mathlib.Core.Path.{sym, ◌∙◌}
use native.Mathlib.Omega.{arith}
use lib.Dec.{lit<}
use Rattle.laws.proofs.Powers.{digit-more}
use Rattle.fields.proofs.Laws.{spells-zero, one-more, all}
use Rattle.fields.proofs.whole.Goals as goal

pub loop-byte-init : goal.loop-byte-init
loop-byte-init c = (lit< tt, spells-zero c.args.field.now)

pub loop-byte-preserved : goal.loop-byte-preserved
loop-byte-preserved c =
    let s = c.args.field.now in
    let h = c.loop-byte in (
      omega (arith, digit-more 256 h.byte-index h.invariant.0 (c.type_inv.field h.byte-index).fits, c.from.ensures),
      rw c.from.ensures (sym (one-more s h.byte-index h.value c.loop-byte-test.true) ∙ h.invariant.1),
    )

pub returns-clause-value : goal.returns-clause-value
returns-clause-value c =
    let h = c.loop-byte in
    sym (all c.args.field.now h.byte-index h.value (omega arith)) ∙ h.invariant.1
