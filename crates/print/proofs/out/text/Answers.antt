-- The byte at i is behind those before it.
use Rattle.print.proofs.Gathering.{byte_failed, byte_put, failed, none}
use Rattle.print.proofs.out.text.Goals as goal

pub loop-i-init : goal.loop-i-init
loop-i-init g c = none _

pub loop-i-preserved : goal.loop-i-preserved
loop-i-preserved g c = byte_put c.args.s.now c.loop-i.i _ _ c.loop-i-test.true _ c.loop-i.invariant c.in_ok-n.ensures.ok

pub returns-in_err-n-clause-err : goal.returns-in_err-n-clause-err
returns-in_err-n-clause-err g c = failed _ _ (byte_failed c.args.s.now c.loop-i.i _ _ c.loop-i-test.true _ c.loop-i.invariant c.in_err-n.ensures.err)
