-- The sort, and the bits.
use Rattle.print.specs.Text.{bits_of}
use Rattle.print.proofs.Gathering.{failed, failed_on, ok_on, put_some}
use Rattle.print.proofs.out.real.Goals as goal

pub returns-in_err-n-clause-err : goal.returns-in_err-n-clause-err
returns-in_err-n-clause-err g c = failed _ _ (put_some c.args.sort.now (bits_of c.args.bits) _ _ c.in_err-n.ensures.err)

pub returns-clause-ok : goal.returns-clause-ok
returns-clause-ok g c = ok_on _ c.args.sort.now (bits_of c.args.bits) _ _ _ c.in_ok-n.ensures.ok (rw c.hexadecimal.ensures at c.text-2.ensures.ok)

pub returns-clause-err : goal.returns-clause-err
returns-clause-err g c = failed_on _ c.args.sort.now (bits_of c.args.bits) _ _ _ c.in_ok-n.ensures.ok (rw c.hexadecimal.ensures at c.text-2.ensures.err)
