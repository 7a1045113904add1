-- Each answer is the definition's for its tests.
use Rattle.print.proofs.Gathering.{anew, behind, failed, none_put, nowhere}
use Rattle.print.proofs.out.byte.Goals as goal

pub returns-then-at-out-clause-ok : goal.returns-then-at-out-clause-ok
returns-then-at-out-clause-ok g c = behind _ _ _ c.if-at-out.true

pub returns-in_err-flush-clause-err : goal.returns-in_err-flush-clause-err
returns-in_err-flush-clause-err g c = failed _ _ (none_put _ _)

pub returns-then-out-gt0-clause-ok : goal.returns-then-out-gt0-clause-ok
returns-then-out-gt0-clause-ok g c = anew _ _ _ c.if-at-out.false c.if-out-gt0.true

pub returns-clause-ok : goal.returns-clause-ok
returns-clause-ok g c = nowhere _ _ _ c.if-out-gt0.false
