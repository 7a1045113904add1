-- Page by page, until no address is left.
use Prim.Native.Nat.{◌/◌}
use mathlib.Core.Path.{◌≡◌, refl, sym, ◌∙◌}
use native.Mathlib.Omega.{arith}
use lib.ListN.{length}
use borrow.Author.Tests.{le-ltb}
use Rattle.addresses.specs.Screen.{answer_to}
use Rattle.addresses.proofs.Lists.{rest_all, rest_end}
use Rattle.screen.proofs.screen.Goals as goal

pub returns : goal.returns
returns c =
    let a = c.args in
    let l = c.loop-i in
    let n = c.count_of-count.ensures in
    let m = c.places_of-places.ensures in
    let room = c.if-places-count.false in
    let e : l.i ≡ length a.addresses.now / 3 = omega arith in
    let f = answer_to a.chosen a.db.now in
    let all = rw (← n.count) at (rest_all f a.addresses.now a.answers.now (omega (arith, n.count, m.places, room))) in
    rw (← n.count, ← m.places, le-ltb _ _ room, c.no_refusal.ensures)
    (refl, sym (rest_end f a.addresses.now l.i l.answers e) ∙ l.invariant.2 ∙ all)
