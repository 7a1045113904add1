-- Below zero the sign is written, and then the number.
use Rattle.std.proofs.Common.{[], ◌∷◌, nat_abs}
use mir.Facts.{to_z-of_z}
use Rattle.print.specs.Text.{decimal_of}
use Rattle.print.proofs.Gathering.{failed}
use Rattle.print.proofs.Signs.{below-zero, told}
use Rattle.print.proofs.Written.{given_on, given_some, written_on}
use Rattle.print.proofs.signed.Goals as goal

pub returns-in_err-text-clause-begun : goal.returns-in_err-text-clause-begun
returns-in_err-text-clause-begun g c =
    let z = c.args.z in
    let e = below-zero z (told z _ c.ranges.z c.if-z-lt0.true) in
    rw e (failed _ _ (given_some _ _ (0x2d ∷ []) (decimal_of (nat_abs z)) c.in_err-text.ensures.begun))

pub returns-then-z-lt0-clause-written : goal.returns-then-z-lt0-clause-written
returns-then-z-lt0-clause-written g c =
    let z = c.args.z in
    let e = below-zero z (told z _ c.ranges.z c.if-z-lt0.true) in
    rw e (written_on _ _ _ _ (0x2d ∷ []) (decimal_of (nat_abs z)) c.in_ok-text.ensures.written (rw (c.magnitude-size.ensures, to_z-of_z c.ranges.z) at c.number.ensures.written))

pub returns-then-z-lt0-clause-begun : goal.returns-then-z-lt0-clause-begun
returns-then-z-lt0-clause-begun g c =
    let z = c.args.z in
    let e = below-zero z (told z _ c.ranges.z c.if-z-lt0.true) in
    rw e (given_on _ _ _ _ (0x2d ∷ []) (decimal_of (nat_abs z)) c.in_ok-text.ensures.written (rw (c.magnitude-size.ensures, to_z-of_z c.ranges.z) at c.number.ensures.begun))
