-- The sort, and the number.
use mir.Facts.{to_z-of_z}
use Rattle.print.specs.Text.{signed_of}
use Rattle.print.proofs.Gathering.{failed, failed_on, ok_on, put_some}
use Rattle.print.proofs.out.integer.Goals as goal

pub returns-in_err-n-clause-err : goal.returns-in_err-n-clause-err
returns-in_err-n-clause-err g c = failed _ _ (put_some c.args.sort.now (signed_of c.args.z) _ _ c.in_err-n.ensures.err)

pub returns-clause-ok : goal.returns-clause-ok
returns-clause-ok g c = ok_on _ c.args.sort.now (signed_of c.args.z) _ _ _ c.in_ok-n.ensures.ok (rw (to_z-of_z c.ranges.z) at c.signed.ensures.ok)

pub returns-clause-err : goal.returns-clause-err
returns-clause-err g c = failed_on _ c.args.sort.now (signed_of c.args.z) _ _ _ c.in_ok-n.ensures.ok (rw (to_z-of_z c.ranges.z) at c.signed.ensures.err)
