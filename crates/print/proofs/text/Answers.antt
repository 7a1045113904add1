-- What one write takes is behind what was written before; one that fails takes nothing.
use Rattle.std.proofs.Common.{◌≡◌, length, take, arith, subst}
use Rattle.std.proofs.lemmas.Grind.{common_steps}
use lib.Seq.{take-length}
use Rattle.std.specs.Io.KnownBytes.{Appends}
use Rattle.std.proofs.KnownBytes.{Appends-nil, Appends-kept}
use Rattle.print.proofs.Gathering.{failed}
use Rattle.print.proofs.Written.{written_so_far, given_to}
use Rattle.print.proofs.text.Goals as goal

pub loop-at-init : goal.loop-at-init
loop-at-init g c = record { within = omega arith; written = Appends-nil _ }

pub loop-at-preserved : goal.loop-at-preserved
loop-at-preserved g c =
    let l = c.loop-at in
    record {
      within = grind (arith, common_steps);
      written = written_so_far _ _ _ c.args.s.now l.at c.in_ok-n.n l.invariant.written c.in_ok-n.ensures.bytes;
    }

pub returns-in_err-n-clause-begun : goal.returns-in_err-n-clause-begun
returns-in_err-n-clause-begun g c =
    let l = c.loop-at in
    failed _ _ (given_to _ _ c.args.s.now l.at (Appends-kept _ _ _ _ l.invariant.written c.in_err-n.ensures.bytes))

pub returns-then-n-eq0-clause-begun : goal.returns-then-n-eq0-clause-begun
returns-then-n-eq0-clause-begun g c =
    let l = c.loop-at in
    given_to _ _ c.args.s.now _ (written_so_far _ _ _ c.args.s.now l.at c.in_ok-n.n l.invariant.written c.in_ok-n.ensures.bytes)

pub returns-clause-written : goal.returns-clause-written
returns-clause-written g c =
    let l = c.loop-at in
    let all : l.at ≡ length c.args.s.now = omega arith in
    let whole : take l.at c.args.s.now ≡ c.args.s.now = rw all (take-length c.args.s.now) in
    subst (λ s. Appends (g.W.Write.contents c.args.to.now) (g.W.Write.contents l.to) s) whole l.invariant.written
