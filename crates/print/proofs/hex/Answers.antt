-- A chunk is written behind those before it.
use Rattle.std.proofs.Common.{ℕ, List, ◌+◌, ◌-◌, arith, length, sym, subst, take, drop}
use Rattle.std.specs.Io.KnownBytes.{Appends}
use Rattle.print.specs.Begun.{AppendsBeginning}
use Rattle.print.specs.Hex.{hex_of}
use Rattle.print.proofs.Gathering.{failed, hex_rest, hex_to}
use Rattle.std.proofs.KnownBytes.{Appends-trans}
use Rattle.print.proofs.Written.{given_before, given_hex, given_on, written_on}
use Rattle.print.proofs.hex.Goals as goal

pub loop-at-preserved : goal.loop-at-preserved
loop-at-preserved g c =
    let l = c.loop-at in
    record {
      within = omega arith;
      written = subst (λ (s : List ℕ). Appends (g.W.Write.contents c.args.to.now) (g.W.Write.contents c.chunk.new.to) s) (hex_to c.args.s.now l.at (l.at + 32 - l.at) (l.at + 32) (omega arith)) (Appends-trans _ _ _ _ _ l.invariant.written c.in_ok-chunk.ensures.written);
    }

pub returns : goal.returns
returns g c =
    let l = c.loop-at in
    let s = c.args.s.now in
    let rest = take (length s - l.at) (drop l.at s) in
    let e = sym (hex_rest s l.at l.invariant.within) in
    record {
      written = rw e (written_on _ _ _ _ (hex_of (take l.at s)) (hex_of rest) l.invariant.written c.chunk-2.ensures.written);
      begun = rw e (given_on _ _ _ _ (hex_of (take l.at s)) (hex_of rest) l.invariant.written c.chunk-2.ensures.begun);
    }

pub returns-in_err-chunk-clause-begun : goal.returns-in_err-chunk-clause-begun
returns-in_err-chunk-clause-begun g c =
    let l = c.loop-at in
    let s = c.args.s.now in
    let so_far = given_before _ _ _ (hex_of (take l.at s)) (hex_of (take (l.at + 32 - l.at) (drop l.at s))) l.invariant.written c.in_err-chunk.ensures.begun in
    failed _ _
    (given_hex _ _ s (l.at + 32)
    (subst (λ (h : List ℕ). AppendsBeginning (g.W.Write.contents c.args.to.now) (g.W.Write.contents c.chunk.new.to) h) (hex_to s l.at (l.at + 32 - l.at) (l.at + 32) (omega arith)) so_far))
