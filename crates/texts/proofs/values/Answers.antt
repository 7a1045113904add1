-- A value is put at each turn, and at the end none is to come.
use Rattle.std.proofs.Common.{◌≡◌, arith, sym}
use Rattle.print.proofs.Gathering.{failed}
use Rattle.texts.proofs.Along.{all_put, at_first, one_more, stopped, values-end, values-next, values-none}
use Rattle.texts.proofs.values.Goals as goal

pub loop-left-init : goal.loop-left-init
loop-left-init g c = at_first _ _

pub returns-in_default-clause-ok : goal.returns-in_default-clause-ok
returns-in_default-clause-ok g c =
    let l = c.loop-left in
    all_put _ _ _ _ (values-end l.here c.args.db.now l.left (sym c.in_default.ensures)) l.invariant

pub returns-in_err-n-clause-err : goal.returns-in_err-n-clause-err
returns-in_err-n-clause-err g c =
    let l = c.loop-left in
    let e = values-next l.here c.args.db.now l.left c.in-Some.column.value c.in-Some.column.next c.loop-left-test.true (sym c.in-Some.ensures) in
    failed _ _ (stopped _ _ _ _ _ _ _ e l.invariant c.in_err-n.ensures.err)

pub loop-left-preserved : goal.loop-left-preserved
loop-left-preserved g c =
    let l = c.loop-left in
    let e = values-next l.here c.args.db.now l.left c.in-Some.column.value c.in-Some.column.next c.loop-left-test.true (sym c.in-Some.ensures) in
    one_more _ _ _ _ _ _ _ e l.invariant c.in_ok-n.ensures.ok

pub returns-clause-ok : goal.returns-clause-ok
returns-clause-ok g c =
    let l = c.loop-left in
    let none : l.left ≡ 0 = omega arith in
    all_put _ _ _ _ (values-none l.here c.args.db.now l.left none) l.invariant
