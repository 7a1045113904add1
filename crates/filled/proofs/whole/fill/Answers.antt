-- The values so far with those to come are the run from the first cursor on, and those to come are all there.
use Prim.Native.Nat.{◌+◌, ◌*◌, ◌-◌, ◌/◌, ◌≤◌, ◌<◌}
use mathlib.Core.Path.{◌≡◌, sym, ap, ◌∙◌}
use native.Mathlib.Omega.{arith}
use lib.ListN.{length, get_or, take, drop}
use Rattle.std.specs.Prelude.{Some}
use Rattle.checked.specs.Whole.{bytes_in}
use Rattle.manners.specs.Manners.{value_by}
use Rattle.columns.proofs.Laws.{type-within}
use Rattle.checked.proofs.Laws.{next, byte_width, long-width, long-room}
use Rattle.filled.proofs.Checked.{byte-value, byte-behind, long-value, long-behind, goes_on, comes-to-end}
use Rattle.filled.proofs.whole.fill.Goals as goal
use Rattle.filled.proofs.whole.fill.Goals.{then-serial-lt128, else-serial-lt128}

-- a turn is within both numbers, so there is a column and a place
pub bounds-db-here : goal.bounds-db-here
bounds-db-here c =
    let l = c.loop-n in
    let x = next c.args.db.now l.here l.n l.invariant.1 (omega arith) in
    (type-within l.here c.args.db.now x.read).1

pub put_value-end-requires-clause-width : goal.put_value-end-requires-clause-width
put_value-end-requires-clause-width c =
    let l = c.loop-n in
    let x = next c.args.db.now l.here l.n l.invariant.1 (omega arith) in
    let f = byte_width c.args.db.now l.here l.n l.invariant.1 x (omega arith) in
    rw c.from-serial.ensures (f ∙ ap Some (sym (ap bytes_in f)))

pub put_value-end-requires-clause-fits : goal.put_value-end-requires-clause-fits
put_value-end-requires-clause-fits c =
    let l = c.loop-n in
    let x = next c.args.db.now l.here l.n l.invariant.1 (omega arith) in
    let f = byte_width c.args.db.now l.here l.n l.invariant.1 x (omega arith) in
    rw c.from-serial.ensures (omega (arith, ap bytes_in f, x.room, l.invariant.1.within))

pub moved-here-requires : goal.moved-here-requires
moved-here-requires c =
    let l = c.loop-n in
    let x = next c.args.db.now l.here l.n l.invariant.1 (omega arith) in
    let w = type-within l.here c.args.db.now x.read in
    omega (arith, w.0, w.1)

pub slice_bounds-type_in-start : goal.slice_bounds-type_in-start
slice_bounds-type_in-start c =
    let l = c.loop-n in
    let x = next c.args.db.now l.here l.n l.invariant.1 (omega arith) in
    let w = type-within l.here c.args.db.now x.read in
    omega (arith, w.0, w.1)

pub slice_bounds-type_in-count : goal.slice_bounds-type_in-count
slice_bounds-type_in-count c =
    let l = c.loop-n in
    let x = next c.args.db.now l.here l.n l.invariant.1 (omega arith) in
    let w = type-within l.here c.args.db.now x.read in
    omega (arith, w.0, w.1)

pub overflow_add-end : goal.overflow_add-end
overflow_add-end c =
    let l = c.loop-n in
    let x = next c.args.db.now l.here l.n l.invariant.1 (omega arith) in
    let w = long-width c.args.db.now l.here l.n l.invariant.1 x c.type_in-number.ensures in
    omega (arith, c.width_in.ensures ∙ w, x.room, l.invariant.1.within)

pub moved-here-requires-else-serial-lt128 : goal.moved-here-requires-else-serial-lt128
moved-here-requires-else-serial-lt128 c =
    let l = c.loop-n in
    let x = next c.args.db.now l.here l.n l.invariant.1 (omega arith) in
    let r = long-room c.args.db.now l.here l.n l.invariant.1 x c.type_in-number.ensures in
    omega (arith, r, l.invariant.1.header)

pub loop-n-preserved : goal.loop-n-preserved
loop-n-preserved c =
    let a = c.args in
    let l = c.loop-n in
    let s = c.manner_of-manner in
    let db = a.db.now in
    let places = length a.table.now / 5 in
    let x = next db l.here l.n l.invariant.1 (omega arith) in
    let below : l.n < places = omega arith in
    let room : 5 * places ≤ length a.table.now = omega arith in
    elim c.if-serial-lt128.branch [
      | then-serial-lt128 w ↦
          let serial = get_or db l.here.at 0 in
          let part = take (length db - l.here.value) (drop l.here.value db) in
          let b : serial < 128 = omega arith in
          let e = w.put_value-end.result in
          goes_on places a.first db a.table.now room l.table l.here l.n l.invariant.0 x below
          (value_by s.result serial l.here.value part)
          (ap (λ manner. value_by manner serial l.here.value part) s.ensures ∙ byte-value db l.here l.n l.invariant.1 x b)
          (w.table-is ∙ rw c.from-serial.ensures at w.put_value-end.ensures.table)
          (w.here-is ∙ w.moved-here.ensures ∙ byte-behind db l.here l.n l.invariant.1 x b e (rw c.from-serial.ensures at w.put_value-end.ensures.end))
      | else-serial-lt128 w ↦
          let e = w.type_in-number.ensures in
          let f = w.put_at-end in
          goes_on places a.first db a.table.now room l.table l.here l.n l.invariant.0 x below
          w.value_at-value.result
          (w.value_at-value.ensures ∙ long-value db l.here l.n l.invariant.1 x e)
          (w.table-is ∙ f.ensures.table)
          (w.here-is ∙ w.moved-here-else-serial-lt128.ensures
          ∙ long-behind db l.here l.n l.invariant.1 x e f.result (f.ensures.end ∙ ap (λ z. l.here.value + z) w.width_in.ensures))
    ]

pub returns : goal.returns
returns c =
    let a = c.args in
    let l = c.loop-n in
    let most = c.min-most in
    let end : l.n ≡ most.result = omega arith in
    let all = comes-to-end (length a.table.now / 5) a.first a.db.now a.table.now (omega arith) l.table l.here l.n l.invariant.0 l.invariant.1 (λ d. omega arith) in
    rw c.filled_of.ensures (rw end at all)
