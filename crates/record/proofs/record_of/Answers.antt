-- The header size is what the varint reader says, and the rest what `fit_of` says of the bytes behind it.
use Prim.Native.Nat.{ℕ, ◌+◌, ◌-◌, ◌≤◌}
use mathlib.Core.Path.{◌≡◌, sym, ap, ◌∙◌}
use mathlib.Core.List.{List}
use native.Mathlib.Omega.{arith}
use lib.ListN.{length, take, drop, length-drop}
use Rattle.laws.proofs.Parts.{tail}
use Rattle.reading.specs.declared.Reading.{Reading}
use Rattle.reading.specs.Reading.{limit}
use Rattle.varint.specs.declared.Number.{Number}
use Rattle.varint.specs.Varint.{varint_of}
use Rattle.varint.proofs.Laws.{length-bounds}
use Rattle.record.specs.Record.{counted, fitted}
use Rattle.record.proofs.Accepted.{fits-headed}
use Rattle.record.proofs.Stages.{record-headless, record-unfit, record-whole}
use Rattle.record.proofs.Count.{fits_count}
use Rattle.record.proofs.record_of.Goals as goal
use Rattle.answers.specs.declared.Fault.{Fault}
use Rattle.record.specs.Record.{fits_with}
use Rattle.record.specs.declared.Fitted.{Fitted}
use Rattle.std.specs.Prelude.{Err, Ok, Result}
use Rattle.std.proofs.lemmas.Result.{err_from_is_err_and}
use Rattle.varint.specs.declared.Cause.{Cause}

-- what the call of `read` said, at the limit that `limit_of` said
read-is : (r : Reading) (q : List ℕ) {l : ℕ} {x v : Result Number Cause} → l ≡ limit r → x ≡ varint_of l q → x ≡ v → varint_of (limit r) q ≡ v
read-is r q el ex ev = sym (ap (λ (l : ℕ). varint_of l q) el) ∙ sym ex ∙ ev

-- what the call of `fit_of` said
fits-is : (r : Reading) (q : List ℕ) {h : Number} {a : ℕ} {x f : Result Fitted Fault} → varint_of (limit r) q ≡ Ok h → a ≡ counted r h.length
    → x ≡ fitted r a h.value (take (length q - h.length) (drop h.length q)) → x ≡ f
    → fitted r (counted r h.length) h.value (drop h.length q) ≡ f
fits-is r q e ea ex ef = sym (ex ∙ rw (tail _ _, ea)) ∙ ef

room-is : (r : Reading) (q : List ℕ) {h : Number} → varint_of (limit r) q ≡ Ok h → h.length ≤ length q
room-is r q e = (length-bounds q (limit r) e).2

-- where all fits, so does the header
headed : (r : Reading) (q : List ℕ) {h : Number} {a n left : ℕ} → varint_of (limit r) q ≡ Ok h → a ≡ counted r h.length
    → fitted r (counted r h.length) h.value (drop h.length q) ≡ fits_with n left → (a ≤ h.value) × (h.length + (h.value - a) ≤ length q)
headed r q v e f =
    let k = room-is r q v in
    let i = fits-headed _ _ _ _ f in
    let l = rw length-drop at i.room in
    (omega (arith, e, i.low), omega (arith, e, i.low, l, k))

pub returns-in_default : goal.returns-in_default
returns-in_default c =
    let a = c.args in
    let e = read-is a.reading a.q.now c.limit_of.ensures c.read.ensures c.in_default.is in
    ap Err c.headless_fault.ensures ∙ sym (record-headless a.reading a.q.now e)

pub slice_bounds-fit_of-count : goal.slice_bounds-fit_of-count
slice_bounds-fit_of-count c =
    let a = c.args in
    omega (arith, room-is a.reading a.q.now (read-is a.reading a.q.now c.limit_of.ensures c.read.ensures c.in-Ok.is))

pub slice_bounds-fit_of-start : goal.slice_bounds-fit_of-start
slice_bounds-fit_of-start c =
    let a = c.args in
    omega (arith, room-is a.reading a.q.now (read-is a.reading a.q.now c.limit_of.ensures c.read.ensures c.in-Ok.is))

pub overflow_sub-result : goal.overflow_sub-result
overflow_sub-result c =
    let a = c.args in
    let e = read-is a.reading a.q.now c.limit_of.ensures c.read.ensures c.in-Ok.is in
    let f = fits-is a.reading a.q.now e c.counted_of-a.ensures c.fit_of.ensures c.in_ok-columns.was in
    omega (arith, headed a.reading a.q.now e c.counted_of-a.ensures f)

pub overflow_add-result : goal.overflow_add-result
overflow_add-result c =
    let a = c.args in
    let e = read-is a.reading a.q.now c.limit_of.ensures c.read.ensures c.in-Ok.is in
    let f = fits-is a.reading a.q.now e c.counted_of-a.ensures c.fit_of.ensures c.in_ok-columns.was in
    omega (arith, headed a.reading a.q.now e c.counted_of-a.ensures f)

pub returns : goal.returns
returns c =
    let a = c.args in
    let e = read-is a.reading a.q.now c.limit_of.ensures c.read.ensures c.in-Ok.is in
    let f = fits-is a.reading a.q.now e c.counted_of-a.ensures c.fit_of.ensures c.in_ok-columns.was in
    rw (c.counted_of-a.ensures, fits_count a.reading _ _ _ f) (sym (record-whole a.reading a.q.now e f))

pub returns-in_err-columns : goal.returns-in_err-columns
returns-in_err-columns c =
    let a = c.args in
    let e = read-is a.reading a.q.now c.limit_of.ensures c.read.ensures c.in-Ok.is in
    let f = fits-is a.reading a.q.now e c.counted_of-a.ensures c.fit_of.ensures c.in_err-columns.was in
    let p = err_from_is_err_and c.from_residual.result c.from_residual.ensures.1 in
    rw (p.1, p.2) (sym (record-unfit a.reading a.q.now e f))
