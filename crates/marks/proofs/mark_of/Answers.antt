-- At every turn, what was found with what the types to come hold is what all of them hold.
use Prim.Native.Nat.{◌-◌, ◌<◌}
use mathlib.Core.Path.{◌≡◌, refl, sym, ap, ◌∙◌}
use mathlib.Core.Bool.{Bool, false, ◌||◌}
use native.Mathlib.Omega.{arith}
use lib.Dec.{eqb}
use lib.ListN.{length, take, drop, length-drop}
use borrow.Author.Tests.{eqb-true, eqb-false}
use Rattle.laws.proofs.Parts.{tail}
use Rattle.varint.specs.declared.Number.{Number}
use Rattle.varint.proofs.Laws.{length-bounds}
use Rattle.record.specs.Types.{column, types_of}
use Rattle.record.proofs.Laws.{types-next, types-broken, types-end}
use Rattle.marks.specs.Marks.{some, long_type, stored_one, empty_value}
use Rattle.marks.proofs.Some.{some_next, lowest-found}
use Rattle.marks.proofs.mark_of.Goals as goal
use Rattle.marks.proofs.mark_of.Goals.{else-loop-rest-test, then-loop-rest-test+in_default}

pub slice_bounds-rest-count : goal.slice_bounds-rest-count
slice_bounds-rest-count c = (length-bounds c.loop-rest.rest.now c.args.limit (sym c.read.ensures ∙ c.in-Ok.is)).2

pub slice_bounds-rest-start : goal.slice_bounds-rest-start
slice_bounds-rest-start c =
    let w = length-bounds c.loop-rest.rest.now c.args.limit (sym c.read.ensures ∙ c.in-Ok.is) in omega arith

pub loop-rest-smaller : goal.loop-rest-smaller
loop-rest-smaller c =
    let t = c.loop-rest.rest.now in
    let w = length-bounds t c.args.limit (sym c.read.ensures ∙ c.in-Ok.is) in
    let n = c.in-Ok.serial.length in
    let less : length (take (length t - n) (drop n t)) < length t = rw (tail t n, length-drop) (omega arith) in
    less

pub loop-rest-preserved : goal.loop-rest-preserved
loop-rest-preserved c =
    let h = c.loop-rest in
    let t = h.rest.now in
    let n = c.in-Ok.serial in
    let next : types_of c.args.limit t ≡ column n (types_of c.args.limit (take (length t - n.length) (drop n.length t)))
    = rw (tail t n.length) (types-next c.args.limit t (sym c.read.ensures ∙ c.in-Ok.is)) in
    let without : c.if-serial-eq12.no_bytes ≡ (eqb n.value 12 || eqb n.value 13) = grind arith in
    record {
      longs = some_next long_type h.long _ _ refl next h.invariant.longs;
      ones = some_next stored_one h.one _ _ refl next h.invariant.ones;
      empties = some_next empty_value h.empty _ _ (ap (λ (b : Bool). h.empty || b) without) next h.invariant.empties;
    }

pub returns : goal.returns
returns c =
    let a = c.args in
    let h = c.loop-rest in
    let t = h.rest.now in
    let none : (f : Number → Bool) → some f (types_of a.limit t) ≡ false = elim c.loop-rest-test.branch [
      | else-loop-rest-test w ↦ λ f. ap (some f) (types-end a.limit t 0 (omega (arith, eqb-true (length t) 0 (sym c.is_empty.ensures ∙ w.loop-rest-test.false))))
      | then-loop-rest-test+in_default w ↦ λ f. ap (some f) (types-broken a.limit t (omega (arith, eqb-false (length t) 0 (sym c.is_empty.ensures ∙ w.loop-rest-test.true))) (sym w.read.ensures ∙ w.in_default.is))
    ] in
    lowest-found a.size a.row a.header (types_of a.limit a.types.now) (types_of a.limit t)
    h.long h.one h.empty c.lowest_of.ensures none h.invariant.longs h.invariant.ones h.invariant.empties
