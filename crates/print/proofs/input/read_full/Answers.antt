-- What is read is behind what was read before.
use Rattle.std.proofs.Common.{◌≤◌, length}
use Rattle.print.proofs.Gathering.{failed}
use Rattle.print.proofs.Written.{read_on, read_stopped, read_within}
use Rattle.print.proofs.input.read_full.Goals as goal

pub loop-done-preserved : goal.loop-done-preserved
loop-done-preserved g c =
    let l = c.loop-done in
    let k : c.in_ok-n.n ≤ length c.read.new.buf = c.in_ok-n.ensures.bound.0 in
    record {
      within = read_within l.done c.in_ok-n.n l.buf c.read.new.buf _ l.invariant.within k;
      taken = read_on _ _ _ l.done c.in_ok-n.n l.buf c.read.new.buf _ l.invariant.within k l.invariant.taken c.in_ok-n.ensures.bytes.0;
    }

pub returns-in_err-n-clause-err : goal.returns-in_err-n-clause-err
returns-in_err-n-clause-err g c =
    let l = c.loop-done in
    failed _ _ (read_stopped _ _ _ l.done l.buf _ l.invariant.within l.invariant.taken c.in_err-n.ensures.bytes)
