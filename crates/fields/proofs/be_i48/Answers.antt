-- The sum is the number that the bytes spell; in the upper half of the patterns it is taken less all of them.
use Prim.Native.Nat.{ℕ, ◌+◌, ◌-◌, ◌*◌, ◌<◌, ◌≤◌}
use mathlib.Core.Path.{◌≡◌, sym, ap, ◌∙◌}
use mathlib.Core.List.{List}
use native.Mathlib.Omega.{arith}
use lib.ListN.{length, get_or}
use lib.IntN.{ℤ, pos, negsuc, ◌-ℤ◌}
use mir.Syntax.{w64}
use mir.Val.{SFits, to_z}
use mir.Facts.{to_z_pos, to_z-of_z}
use Rattle.fields.specs.Fields.{unsigned, twos}
use Rattle.fields.proofs.Laws.{sum-of-six}
use Rattle.fields.proofs.Twos.{lower, upper, less-all}
use Rattle.fields.proofs.be_i48.Goals as goal

module _ (n : ℕ) (upper-half : 140737488355328 ≤ n) (below : n < 281474976710656) where
  less : to_z w64 n -ℤ pos 281474976710656 ≡ negsuc (140737488355328 - 1 - (n - 140737488355328))
  less =
      ap (λ (z : ℤ). z -ℤ pos 281474976710656) (to_z_pos w64 {n = n} (omega arith))
      ∙ less-all 140737488355328 n upper-half below

  fits : SFits w64 (to_z w64 n -ℤ pos 281474976710656)
  fits = record { sfits = rw less (omega arith) }

-- the sum of the bytes is below 2 to the 48, and it is what they spell
module _ (p q r t u v : ℕ) where
  below-48 : p < 256 → q < 256 → r < 256 → t < 256 → u < 256 → v < 256
      → p * 1099511627776 + q * 4294967296 + r * 16777216 + t * 65536 + u * 256 + v < 281474976710656
  below-48 hp hq hr ht hu hv = omega arith

  spelt-48 : (s : List ℕ) → 6 ≤ length s → p ≡ get_or s 0 0 → q ≡ get_or s 1 0 → r ≡ get_or s 2 0
      → t ≡ get_or s 3 0 → u ≡ get_or s 4 0 → v ≡ get_or s 5 0
      → p * 1099511627776 + q * 4294967296 + r * 16777216 + t * 65536 + u * 256 + v ≡ unsigned 6 s
  spelt-48 s h ep eq er et eu ev = rw (ep, eq, er, et, eu, ev) (sym (sum-of-six s h))

pub returns-then-sum-lt140737488355328 : goal.returns-then-sum-lt140737488355328
returns-then-sum-lt140737488355328 c =
    let p = c.byte in
    let q = c.byte-2 in
    let r = c.byte-3 in
    let t = c.byte-4 in
    let u = c.byte-5 in
    let v = c.byte-6 in
    let sum : ℕ = p.result * 1099511627776 + q.result * 4294967296 + r.result * 16777216 + t.result * 65536 + u.result * 256 + v.result in
    let low : sum < 281474976710656 = below-48 p.result q.result r.result t.result u.result v.result p.ensures.bound q.ensures.bound r.ensures.bound t.ensures.bound u.ensures.bound v.ensures.bound in
    let spelt = spelt-48 p.result q.result r.result t.result u.result v.result c.args.part.now c.if-part-lt6.false p.ensures.value q.ensures.value r.ensures.value t.ensures.value u.ensures.value v.ensures.value in
    to_z_pos w64 {n = sum} (omega (arith, low)) ∙ sym (lower 140737488355328 sum c.if-sum-lt140737488355328.true) ∙ ap (twos 281474976710656) spelt

pub overflow_sub-result : goal.overflow_sub-result
overflow_sub-result c =
    let p = c.byte in
    let q = c.byte-2 in
    let r = c.byte-3 in
    let t = c.byte-4 in
    let u = c.byte-5 in
    let v = c.byte-6 in
    let sum : ℕ = p.result * 1099511627776 + q.result * 4294967296 + r.result * 16777216 + t.result * 65536 + u.result * 256 + v.result in
    let low : sum < 281474976710656 = below-48 p.result q.result r.result t.result u.result v.result p.ensures.bound q.ensures.bound r.ensures.bound t.ensures.bound u.ensures.bound v.ensures.bound in
    fits sum c.if-sum-lt140737488355328.false low

pub returns : goal.returns
returns c =
    let p = c.byte in
    let q = c.byte-2 in
    let r = c.byte-3 in
    let t = c.byte-4 in
    let u = c.byte-5 in
    let v = c.byte-6 in
    let sum : ℕ = p.result * 1099511627776 + q.result * 4294967296 + r.result * 16777216 + t.result * 65536 + u.result * 256 + v.result in
    let high : 140737488355328 ≤ sum = c.if-sum-lt140737488355328.false in
    let low : sum < 281474976710656 = below-48 p.result q.result r.result t.result u.result v.result p.ensures.bound q.ensures.bound r.ensures.bound t.ensures.bound u.ensures.bound v.ensures.bound in
    let spelt = spelt-48 p.result q.result r.result t.result u.result v.result c.args.part.now c.if-part-lt6.false p.ensures.value q.ensures.value r.ensures.value t.ensures.value u.ensures.value v.ensures.value in
    to_z-of_z {w = w64} {z = to_z w64 sum -ℤ pos 281474976710656} (fits sum high low)
    ∙ less sum high low ∙ sym (upper 140737488355328 sum high low) ∙ ap (twos 281474976710656) spelt
