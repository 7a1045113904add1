-- The buffer is looked at first, then the cell's own bytes, then the chain; and then all of them are laid over the buffer.
use Prim.Native.Nat.{min}
use mathlib.Core.Path.{◌≡◌, refl, sym, ◌∙◌, ap}
use native.Mathlib.Omega.{arith}
use lib.ListN.{length}
use Rattle.laws.proofs.Parts.{tail}
use Rattle.kept.specs.Kept.{kept_of}
use Rattle.links.specs.Links.{chain_of}
use Rattle.links.specs.Whole.{whole}
use Rattle.kept.proofs.Sizes.{kept-below}
use Rattle.chain.proofs.Payloads.{chain, payload-unfit, payload-joined}
use Rattle.chain.proofs.Payloads.{joined_length, joined-laid}
use Rattle.chain.proofs.gather.Goals.{After-is_whole}
use Rattle.chain.proofs.gather.Goals as goal
use Rattle.std.specs.Prelude.{Ok}

pub overflow_add-kept : goal.overflow_add-kept
overflow_add-kept c =
    record { fits = omega (arith, c.kept_of-kept.ensures, kept-below c.args.kind c.args.shape.end c.args.p c.requires.0) }

-- the chain that is followed is the payload's
chained : (c : After-is_whole) → chain_of c.links_of-links.result c.args.shape c.be_u32-first.result c.args.db.now
    ≡ chain c.args.kind c.args.shape c.args.p c.args.s.now c.args.db.now
chained c = rw (c.links_of-links.ensures, c.less.ensures, c.be_u32-first.ensures, tail _ _, c.kept_of-kept.ensures)

pub returns-then-not-is_whole : goal.returns-then-not-is_whole
returns-then-not-is_whole c =
    let a = c.args in
    let w = sym (ap (λ x. whole x) (chained (goal.at.returns-then-not-is_whole c).After-is_whole)) ∙ sym c.is_whole.ensures ∙ c.if-not-is_whole.true in
    let r = rw c.kept_of-kept.ensures at c.if-s-kept.false in
    let e = payload-unfit a.kind a.shape a.p a.s.now a.db.now (length a.buffer.now) in
    rw (e c.if-buffer-p.false r w) (record { answer = refl; buffer = refl })

pub returns : goal.returns
returns c =
    let a = c.args in
    let own = c.least-own.result in
    let r = rw c.kept_of-kept.ensures at c.if-s-kept.false in
    let chained = chained (goal.at.returns c).After-is_whole in
    let w = sym (ap (λ x. whole x) chained) ∙ sym c.is_whole.ensures ∙ c.if-not-is_whole.false in
    let kept : own ≡ min (kept_of a.kind a.shape.end a.p) a.p = rw c.kept_of-kept.ensures at c.least-own.ensures in
    let all = rw (c.lay.ensures, chained, kept) at c.follow.ensures in
    rw (payload-joined a.kind a.shape a.p a.s.now a.db.now (length a.buffer.now) c.if-buffer-p.false r w) (record {
      answer = ap (λ n. Ok n) (sym (joined_length a.kind a.shape a.p a.s.now a.db.now r c.requires w));
      buffer = all ∙ sym (joined-laid a.kind a.shape a.p a.s.now a.db.now r a.buffer.now);
    })
