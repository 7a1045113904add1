-- A digit more is written at each turn, and at the end nothing is left.
use Rattle.std.proofs.Common.{arith, subst, ◌≡◌, ◌-◌, ◌^◌, ◌≤◌, ◌<◌, ℕ}
use Rattle.print.proofs.Spelling.{all_decimals, few_decimals, put_first, put_next, some_left}
use Rattle.print.proofs.digits.decimal.Goals as goal

pub loop-rest-init : goal.loop-rest-init
loop-rest-init c = record {
  within = omega arith;
  spelt = put_first 10 c.args.n 19 _ c.args.out.now (omega arith) (omega arith) (c.digit.ensures);
  least = λ over. absurd (omega arith);
}

pub loop-rest-preserved : goal.loop-rest-preserved
loop-rest-preserved c =
    let l = c.loop-rest in
    let n = c.args.n in
    let some : 20 - l.at < 20 = few_decimals n (20 - l.at) l.rest _ (omega arith) l.invariant.spelt (omega arith) in
    let least : 10 ^ (20 - l.at) ≤ n = some_left 10 n (20 - l.at) l.rest _ (omega arith) l.invariant.spelt (omega arith) in
    let e : 20 - l.at ≡ 20 - (l.at - 1) - 1 = omega arith in
    record {
      within = omega arith;
      spelt = put_next 10 n 20 l.rest l.at _ l.out l.invariant.spelt (omega arith) (omega arith) (omega arith) c.digit-in-loop-rest.ensures;
      least = λ over. subst (λ (k : ℕ). 10 ^ k ≤ n) e least;
    }

pub returns-clause-digits : goal.returns-clause-digits
returns-clause-digits c =
    let l = c.loop-rest in
    all_decimals c.args.n (20 - l.at) l.rest _ (omega arith) l.invariant.spelt (omega arith) (omega arith) l.invariant.least
