-- Each page hands the chain on to the next one.
use Prim.Native.Nat.{suc, ◌-◌, ◌+◌}
use mathlib.Core.Path.{◌≡◌, sym, ◌∙◌, ap}
use native.Mathlib.Omega.{arith}
use lib.ListN.{drop}
use Rattle.laws.proofs.Parts.{tail}
use Rattle.fields.specs.Fields.{unsigned}
use Rattle.place.specs.Place.{placed_at}
use Rattle.links.specs.Whole.{whole}
use Rattle.links.proofs.Steps.{lies, page-within, whole-end, chain-absent, whole-next}
use Rattle.links.proofs.is_whole.Goals as goal
use Rattle.std.specs.Prelude.{None}

pub returns-in_default : goal.returns-in_default
returns-in_default c =
    let a = c.args in
    let i = c.loop-link in
    let e : lies a.shape a.db.now i.number ≡ None = cc in
    let more : a.links - i._link ≡ suc (a.links - (i._link + 1)) = omega arith in
    let w = ap (λ x. whole x) (chain-absent a.shape a.db.now (a.links - (i._link + 1)) i.number e) in
    sym w ∙ rw more at i.invariant

-- the page lies in the bytes
pub slice_bounds-be_u32-count : goal.slice_bounds-be_u32-count
slice_bounds-be_u32-count c =
    let a = c.args in
    let e : lies a.shape a.db.now c.loop-link.number ≡ placed_at c.in-Some.place.at c.in-Some.place.from = cc in
    omega (arith, page-within a.shape a.db.now c.loop-link.number e)

pub slice_bounds-be_u32-start : goal.slice_bounds-be_u32-start
slice_bounds-be_u32-start c =
    let a = c.args in
    let e : lies a.shape a.db.now c.loop-link.number ≡ placed_at c.in-Some.place.at c.in-Some.place.from = cc in
    omega (arith, page-within a.shape a.db.now c.loop-link.number e)

pub loop-link-preserved : goal.loop-link-preserved
loop-link-preserved c =
    let a = c.args in
    let i = c.loop-link in
    let place = c.in-Some.place in
    let e : lies a.shape a.db.now i.number ≡ placed_at place.at place.from = cc in
    let more : a.links - i._link ≡ suc (a.links - (i._link + 1)) = omega arith in
    let next : c.be_u32-number.result ≡ unsigned 4 (drop place.at a.db.now)
    = c.be_u32-number.ensures ∙ ap (λ x. unsigned 4 x) (tail a.db.now place.at) in
    rw next (sym (whole-next a.shape a.db.now (a.links - (i._link + 1)) i.number e) ∙ rw more at i.invariant)

pub returns : goal.returns
returns c =
    let a = c.args in
    let i = c.loop-link in
    let z : a.links - i._link ≡ 0 = omega arith in
    sym (whole-end a.shape a.db.now i.number) ∙ rw z at i.invariant
