-- The digits of the byte at i are behind those of the bytes before it.
use Rattle.print.specs.Hex.{hex_of}
use Rattle.print.proofs.Gathering.{failed, pair_failed, pair_put, put_some}
use Rattle.print.proofs.out.long.Goals as goal

pub returns-in_err-n-clause-err : goal.returns-in_err-n-clause-err
returns-in_err-n-clause-err g c = failed _ _ (put_some c.args.sort.now (hex_of c.args.s.now) _ _ c.in_err-n.ensures.err)

pub loop-i-preserved : goal.loop-i-preserved
loop-i-preserved g c = pair_put c.args.s.now c.loop-i.i _ _ c.loop-i-test.true c.args.sort.now _ c.loop-i.invariant c.in_ok-n-2.ensures.ok

pub returns-in_err-n-2-clause-err : goal.returns-in_err-n-2-clause-err
returns-in_err-n-2-clause-err g c = failed _ _ (pair_failed c.args.s.now c.loop-i.i _ _ c.loop-i-test.true c.args.sort.now _ c.loop-i.invariant c.in_err-n-2.ensures.err)
