-- The values so far with those to come are the run from the first cursor on.
use Prim.Native.Nat.{◌+◌, ◌*◌, ◌-◌, ◌≤◌}
use mathlib.Core.Path.{◌≡◌, refl, sym, ap, ◌∙◌, subst}
use native.Mathlib.Omega.{arith}
use lib.ListN.{length}
use Rattle.turns.specs.Words.{words_of}
use Rattle.words.proofs.Laws.{laid_through}
use Rattle.run.proofs.Filling.{Held, one_more, all-stored, run-done, run-full}
use Rattle.run.proofs.fill.Goals as goal

pub returns-in_default : goal.returns-in_default
returns-in_default c =
    let a = c.args in
    let l = c.loop-n in
    let p = c.places_of-places in
    let done = sym c.step.ensures ∙ c.in_default.is in
    rw (c.filled_of.ensures, ← p.ensures.places)
    (all-stored p.result a.first a.db.now a.table.now (omega arith) l.table l.here l.n l.invariant (run-done _ _ _ done))

-- a turn of the loop has a place in the table, which ends where the next one begins
pub loop-n-preserved : goal.loop-n-preserved
loop-n-preserved c =
    let a = c.args in
    let l = c.loop-n in
    let p = c.places_of-places in
    let v = c.value_at-value in
    let next = c.in-Some.field-0.next in
    let place : 5 * l.n + 5 ≤ length l.table = omega (arith, l.invariant.0) in
    let stepped = sym c.step.ensures ∙ c.in-Some.is in
    subst (λ t. Held p.result a.first a.db.now a.table.now t next (l.n + 1))
    (sym (laid_through l.table (words_of v.result) c.put_value.new.place (5 * l.n) (5 * l.n + 5) c.put_value.ensures refl place))
    (one_more p.result a.first a.db.now a.table.now (omega arith) l.table l.here l.n l.invariant
    (words_of v.result) next c.loop-n-test.true stepped (ap words_of (sym v.ensures)) refl)

pub returns : goal.returns
returns c =
    let a = c.args in
    let l = c.loop-n in
    let p = c.places_of-places in
    let end : l.n ≡ p.result = omega arith in
    let full : p.result - l.n ≡ 0 = omega arith in
    let all = all-stored p.result a.first a.db.now a.table.now (omega arith) l.table l.here l.n l.invariant (rw full (run-full _ _)) in
    rw (c.filled_of-2.ensures, ← p.ensures.places) (rw end at all)
