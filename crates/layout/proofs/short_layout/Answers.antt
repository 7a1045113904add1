-- At every turn, how the rest of the values lie in the rest of the bytes is how all of them lie; and no type so far is a mark.
use mathlib.Core.Path.{◌≡◌}
use native.Mathlib.Omega.{arith}
use lib.ListN.{length}
use Rattle.layout.proofs.Types.{gone-on, gone-all}
use Rattle.layout.proofs.short_layout.Goals as goal

pub loop-byte-preserved : goal.loop-byte-preserved
loop-byte-preserved c = let a = c.args in
    let l = c.loop-byte in
    let u = rw (c.barred_of-barred.ensures, c.least_of-least.ensures, c.from.ensures) at c.in_ok-width_of.ensures in
    let p = c.in_ok-left.ensures in
    rw p.1 (gone-on a.guarded a.room a.t.now l.byte-index l.left c.in_ok-width_of.field-0 c.loop-byte-test.true u p.0 l.invariant)

pub returns : goal.returns
returns c = let a = c.args in
    let l = c.loop-byte in
    let all : l.byte-index ≡ length a.t.now = omega arith in
    gone-all a.guarded a.room a.t.now (length a.t.now) l.left (omega arith) (rw all at l.invariant)
