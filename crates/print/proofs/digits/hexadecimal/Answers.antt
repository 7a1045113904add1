-- A digit more is written at each turn, until there are 16.
use Rattle.std.proofs.Common.{arith, ◌≡◌}
use Rattle.print.proofs.Spelling.{all_bits, put_next}
use Rattle.print.proofs.digits.hexadecimal.Goals as goal

pub loop-at-preserved : goal.loop-at-preserved
loop-at-preserved c =
    let l = c.loop-at in
    record {
      within = omega arith;
      spelt = put_next 16 c.args.n 16 l.rest l.at _ l.out l.invariant.spelt (omega arith) (omega arith) (omega arith) c.digit.ensures;
    }

pub returns : goal.returns
returns c = let none : c.loop-at.at ≡ 0 = omega arith in all_bits c.args.n c.loop-at.at c.loop-at.rest c.loop-at.out none c.loop-at.invariant.spelt
