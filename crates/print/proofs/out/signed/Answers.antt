-- Below zero the sign is behind what waits, and then the number.
use Rattle.std.proofs.Common.{[], ◌∷◌, nat_abs}
use mir.Facts.{to_z-of_z}
use Rattle.print.specs.Text.{decimal_of}
use Rattle.print.proofs.Gathering.{failed, failed_on, ok_on, put_some}
use Rattle.print.proofs.Signs.{below-zero, told}
use Rattle.print.proofs.out.signed.Goals as goal

pub returns-in_err-n-clause-err : goal.returns-in_err-n-clause-err
returns-in_err-n-clause-err g c =
    let z = c.args.z in
    let e = below-zero z (told z _ c.ranges.z c.if-z-lt0.true) in
    rw e (failed _ _ (put_some (0x2d ∷ []) (decimal_of (nat_abs z)) _ _ c.in_err-n.ensures.err))

pub returns-then-z-lt0-clause-ok : goal.returns-then-z-lt0-clause-ok
returns-then-z-lt0-clause-ok g c =
    let z = c.args.z in
    let e = below-zero z (told z _ c.ranges.z c.if-z-lt0.true) in
    rw e (ok_on _ (0x2d ∷ []) (decimal_of (nat_abs z)) _ _ _ c.in_ok-n.ensures.ok (rw (c.magnitude-size.ensures, to_z-of_z c.ranges.z) at c.number.ensures.ok))

pub returns-then-z-lt0-clause-err : goal.returns-then-z-lt0-clause-err
returns-then-z-lt0-clause-err g c =
    let z = c.args.z in
    let e = below-zero z (told z _ c.ranges.z c.if-z-lt0.true) in
    rw e (failed_on _ (0x2d ∷ []) (decimal_of (nat_abs z)) _ _ _ c.in_ok-n.ensures.ok (rw (c.magnitude-size.ensures, to_z-of_z c.ranges.z) at c.number.ensures.err))
