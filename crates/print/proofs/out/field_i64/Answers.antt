-- The space, and the number.
use Rattle.std.proofs.Common.{[], ◌∷◌}
use mir.Facts.{to_z-of_z}
use Rattle.print.specs.Text.{signed_of}
use Rattle.print.proofs.Gathering.{failed, failed_on, ok_on, put_some}
use Rattle.print.proofs.out.field_i64.Goals as goal

pub returns-in_err-after-clause-err : goal.returns-in_err-after-clause-err
returns-in_err-after-clause-err g c = failed _ _ (put_some (0x20 ∷ []) (signed_of c.args.z) _ _ c.in_err-after.ensures.err)

pub returns-clause-ok : goal.returns-clause-ok
returns-clause-ok g c = ok_on _ (0x20 ∷ []) (signed_of c.args.z) _ _ _ c.in_ok-after.ensures.ok (rw (to_z-of_z c.ranges.z) at c.signed.ensures.ok)

pub returns-clause-err : goal.returns-clause-err
returns-clause-err g c = failed_on _ (0x20 ∷ []) (signed_of c.args.z) _ _ _ c.in_ok-after.ensures.ok (rw (to_z-of_z c.ranges.z) at c.signed.ensures.err)
