-- Each page's content is laid behind what is there, and the rest of the chain behind it.
use Prim.Native.Nat.{suc, ◌+◌, ◌-◌, ◌≤◌}
use mathlib.Core.Path.{◌≡◌, ◌∙◌, ap}
use native.Mathlib.Omega.{arith}
use lib.ListN.{length}
use Rattle.std.specs.Prelude.{None}
use Rattle.laws.proofs.Parts.{tail}
use Rattle.fields.specs.Fields.{unsigned}
use Rattle.place.specs.Place.{placed_at}
use Rattle.links.proofs.Steps.{lies, page-within}
use Rattle.chain.proofs.Following.{goes_on, gone, absent}
use Rattle.chain.proofs.follow.Goals.{In-Some}
use Rattle.chain.proofs.follow.Goals as goal

pub returns-in_default : goal.returns-in_default
returns-in_default c =
    let a = c.args in
    let i = c.loop-link in
    let e : lies a.shape a.db.now i.number ≡ None = cc in
    let more : a.links - i._link ≡ suc (a.links - (i._link + 1)) = omega arith in
    absent a.shape a.db.now a.size (a.links - i._link) i.number i.here i.buffer i.invariant (a.links - (i._link + 1)) more e

there : (c : In-Some) → lies c.args.shape c.args.db.now c.loop-link.number ≡ placed_at c.in-Some.place.at c.in-Some.place.from
there c = cc

-- the page lies in the bytes, and its content with it
within : (c : In-Some) → c.in-Some.place.at + c.args.shape.page_size ≤ length c.args.db.now
within c = page-within c.args.shape c.args.db.now c.loop-link.number (there c)

pub overflow_add-end : goal.overflow_add-end
overflow_add-end c = record { fits = omega (arith, within (goal.at.overflow_add-end c).In-Some) }

pub overflow_add-end-in-loop-link : goal.overflow_add-end-in-loop-link
overflow_add-end-in-loop-link c = record { fits = omega (arith, within (goal.at.overflow_add-end-in-loop-link c).In-Some) }

pub overflow_add-start : goal.overflow_add-start
overflow_add-start c = record { fits = omega (arith, within (goal.at.overflow_add-start c).In-Some) }

pub slice_bounds-lay-end : goal.slice_bounds-lay-end
slice_bounds-lay-end c = omega (arith, within (goal.at.slice_bounds-lay-end c).In-Some)

pub slice_bounds-be_u32-count : goal.slice_bounds-be_u32-count
slice_bounds-be_u32-count c = omega (arith, within (goal.at.slice_bounds-be_u32-count c).In-Some)

pub slice_bounds-be_u32-start : goal.slice_bounds-be_u32-start
slice_bounds-be_u32-start c = omega (arith, within (goal.at.slice_bounds-be_u32-start c).In-Some)

pub loop-link-preserved : goal.loop-link-preserved
loop-link-preserved c =
    let a = c.args in
    let i = c.loop-link in
    let start = c.in-Some.place.at in
    let n = c.least-n.result in
    let more : a.links - i._link ≡ suc (a.links - (i._link + 1)) = omega arith in
    let e : start + 4 + n - (start + 4) ≡ n = omega arith in
    goes_on a.shape a.db.now a.size c.requires.shaped c.requires.room.1 (a.links - i._link) i.number i.here
    i.buffer i.invariant (a.links - (i._link + 1)) more (there (goal.at.loop-link-preserved c).In-Some) c.least-n.ensures
    (c.be_u32-number.ensures ∙ ap (λ x. unsigned 4 x) (tail a.db.now start))
    (rw e at c.lay.ensures)

pub returns : goal.returns
returns c =
    let i = c.loop-link in
    let z : c.args.links - i._link ≡ 0 = omega arith in
    gone c.args.shape c.args.db.now c.args.size i.number i.here i.buffer (rw z at i.invariant)
