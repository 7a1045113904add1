-- The first byte, and the second.
use Rattle.std.proofs.Common.{[], ◌∷◌}
use Rattle.print.proofs.Gathering.{failed, failed_on, ok_on, put_some}
use Rattle.print.proofs.out.pair.Goals as goal

pub returns-in_err-n-clause-err : goal.returns-in_err-n-clause-err
returns-in_err-n-clause-err g c = failed _ _ (put_some (_ ∷ []) (_ ∷ []) _ _ (rw c.digit.ensures at c.in_err-n.ensures.err))

pub returns-clause-ok : goal.returns-clause-ok
returns-clause-ok g c = ok_on _ (_ ∷ []) (_ ∷ []) _ _ _ (rw c.digit.ensures at c.in_ok-n.ensures.ok) (rw c.digit-2.ensures at c.byte-2.ensures.ok)

pub returns-clause-err : goal.returns-clause-err
returns-clause-err g c = failed_on _ (_ ∷ []) (_ ∷ []) _ _ _ (rw c.digit.ensures at c.in_ok-n.ensures.ok) (rw c.digit-2.ensures at c.byte-2.ensures.err)
