-- Each turn passes a type in its shortest form.
use Prim.Native.Nat.{ℕ, ◌-◌, ◌<◌}
use mathlib.Core.Path.{◌≡◌, sym, ap, ◌∙◌}
use mathlib.Core.Bool.{Bool, true, ◌&&◌}
use mathlib.Core.List.{List, [], ◌∷◌}
use native.Mathlib.Omega.{arith}
use lib.ListN.{length, take, drop, length-drop}
use Rattle.std.specs.Prelude.{Err}
use Rattle.laws.proofs.Parts.{tail}
use Rattle.shortest.specs.Shortest.{shortest}
use Rattle.varint.specs.declared.Cause.{Cause}
use Rattle.varint.specs.declared.Number.{Number}
use Rattle.varint.specs.Varint.{varint_of}
use Rattle.varint.proofs.Laws.{length-bounds}
use Rattle.record.specs.Types.{Types, column, types_of}
use Rattle.record.proofs.Laws.{types-nil, types-next, types-broken}
use Rattle.shortest_cells.specs.Cells.{each_shortest}
use Rattle.shortest_cells.proofs.each_shortest.Goals as goal

-- where no type is read, none is left, or one that has no end
ends : (limit : ℕ) (t : List ℕ) {cause : Cause} → varint_of limit t ≡ Err cause → each_shortest (types_of limit t) ≡ true
ends limit [] e = ap each_shortest (types-nil limit)
ends limit (b ∷ t) e = ap each_shortest (types-broken limit (b ∷ t) (omega arith) e)

-- one type and the rest of them
one : (t : Number) (rest : Types) {b : Bool} → shortest t ≡ b → (b && each_shortest rest) ≡ each_shortest (column t rest)
one t rest e = sym (ap (λ (b : Bool). b && each_shortest rest) e)

pub returns-then-not-is_shortest : goal.returns-then-not-is_shortest
returns-then-not-is_shortest c =
    let t = c.loop-serial.rest.now in
    let n = c.in-Ok.serial in
    let next = sym (ap each_shortest (types-next c.args.limit t (sym c.read.ensures ∙ c.in-Ok.is))) ∙ c.loop-serial.invariant in
    one n (types_of c.args.limit (drop n.length t)) (sym c.is_shortest.ensures ∙ c.if-not-is_shortest.true) ∙ next

pub slice_bounds-rest-count : goal.slice_bounds-rest-count
slice_bounds-rest-count c = (length-bounds c.loop-serial.rest.now c.args.limit (sym c.read.ensures ∙ c.in-Ok.is)).2

pub slice_bounds-rest-start : goal.slice_bounds-rest-start
slice_bounds-rest-start c =
    let w = length-bounds c.loop-serial.rest.now c.args.limit (sym c.read.ensures ∙ c.in-Ok.is) in omega arith

pub loop-serial-smaller : goal.loop-serial-smaller
loop-serial-smaller c =
    let t = c.loop-serial.rest.now in
    let n = c.in-Ok.serial.length in
    let w = length-bounds t c.args.limit (sym c.read.ensures ∙ c.in-Ok.is) in
    let less : length (take (length t - n) (drop n t)) < length t = rw (tail t n, length-drop) (omega arith) in
    less

pub loop-serial-preserved : goal.loop-serial-preserved
loop-serial-preserved c =
    let t = c.loop-serial.rest.now in
    let n = c.in-Ok.serial in
    let next = sym (ap each_shortest (types-next c.args.limit t (sym c.read.ensures ∙ c.in-Ok.is))) ∙ c.loop-serial.invariant in
    ap (λ (s : List ℕ). each_shortest (types_of c.args.limit s)) (tail t n.length)
    ∙ one n (types_of c.args.limit (drop n.length t)) (sym c.is_shortest.ensures ∙ c.if-not-is_shortest.false)
    ∙ next

pub returns : goal.returns
returns c = sym (ends c.args.limit c.loop-serial.rest.now (sym c.read.ensures ∙ c.in_default.is)) ∙ c.loop-serial.invariant
