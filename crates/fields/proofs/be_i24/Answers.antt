-- The sum is the number that the bytes spell; in the upper half of the patterns it is taken less all of them.
use Prim.Native.Nat.{ℕ, ◌+◌, ◌-◌, ◌*◌, ◌<◌, ◌≤◌}
use mathlib.Core.Path.{◌≡◌, sym, ap, ◌∙◌}
use mathlib.Core.List.{List}
use native.Mathlib.Omega.{arith}
use lib.ListN.{length, get_or}
use lib.IntN.{ℤ, pos, negsuc, ◌-ℤ◌}
use mir.Syntax.{w32, w64}
use mir.Val.{SFits, to_z}
use mir.Facts.{to_z_pos}
use Rattle.laws.proofs.Casts.{cast_fits, cast_same}
use Rattle.fields.specs.Fields.{unsigned, twos}
use Rattle.fields.proofs.Laws.{sum-of-three}
use Rattle.fields.proofs.Twos.{lower, upper, less-all}
use Rattle.fields.proofs.be_i24.Goals as goal

module _ (n : ℕ) (upper-half : 8388608 ≤ n) (below : n < 16777216) where
  less : to_z w64 n -ℤ pos 16777216 ≡ negsuc (8388608 - 1 - (n - 8388608))
  less =
      ap (λ (z : ℤ). z -ℤ pos 16777216) (to_z_pos w64 {n = n} (omega arith))
      ∙ less-all 8388608 n upper-half below

  -- in 64 bits and in 32
  fits-64 : SFits w64 (to_z w64 n -ℤ pos 16777216)
  fits-64 = record { sfits = rw less (omega arith) }

  fits-32 : SFits w32 (to_z w64 n -ℤ pos 16777216)
  fits-32 = record { sfits = rw less (omega arith) }

-- the sum of the bytes is below 2 to the 24, and it is what they spell
below-24 : (x y z : ℕ) → x < 256 → y < 256 → z < 256 → x * 65536 + y * 256 + z < 16777216
below-24 x y z p q r = omega arith

spelt-24 : (s : List ℕ) (x y z : ℕ) → 3 ≤ length s → x ≡ get_or s 0 0 → y ≡ get_or s 1 0 → z ≡ get_or s 2 0
    → x * 65536 + y * 256 + z ≡ unsigned 3 s
spelt-24 s x y z h p q r = rw (p, q, r) (sym (sum-of-three s h))

pub overflow_cast-result : goal.overflow_cast-result
overflow_cast-result c =
    let r = c.signed_spelt in
    cast_fits w64 w32 r.result (record { sfits = r.type_inv }) (record { sfits = omega (arith, r.ensures.bound) })

pub returns-then-part-lt3 : goal.returns-then-part-lt3
returns-then-part-lt3 c =
    let r = c.signed_spelt in
    cast_same w64 w32 r.result (record { sfits = r.type_inv }) (record { sfits = omega (arith, r.ensures.bound) }) ∙ r.ensures.value

pub returns-then-sum-lt8388608 : goal.returns-then-sum-lt8388608
returns-then-sum-lt8388608 c =
    let x = c.byte in
    let y = c.byte-2 in
    let z = c.byte-3 in
    let sum : ℕ = x.result * 65536 + y.result * 256 + z.result in
    to_z_pos w32 {n = sum} (omega arith) ∙ sym (lower 8388608 sum c.if-sum-lt8388608.true)
    ∙ ap (twos 16777216) (spelt-24 c.args.part.now x.result y.result z.result c.if-part-lt3.false x.ensures.value y.ensures.value z.ensures.value)

pub overflow_sub-result : goal.overflow_sub-result
overflow_sub-result c =
    let x = c.byte in
    let y = c.byte-2 in
    let z = c.byte-3 in
    fits-64 (x.result * 65536 + y.result * 256 + z.result) c.if-sum-lt8388608.false
    (below-24 x.result y.result z.result x.ensures.bound y.ensures.bound z.ensures.bound)

pub overflow_cast-result-3 : goal.overflow_cast-result-3
overflow_cast-result-3 c =
    let x = c.byte in
    let y = c.byte-2 in
    let z = c.byte-3 in
    let sum : ℕ = x.result * 65536 + y.result * 256 + z.result in
    let h : 8388608 ≤ sum = c.if-sum-lt8388608.false in
    let low = below-24 x.result y.result z.result x.ensures.bound y.ensures.bound z.ensures.bound in
    cast_fits w64 w32 (to_z w64 sum -ℤ pos 16777216) (fits-64 sum h low) (fits-32 sum h low)

pub returns : goal.returns
returns c =
    let x = c.byte in
    let y = c.byte-2 in
    let z = c.byte-3 in
    let sum : ℕ = x.result * 65536 + y.result * 256 + z.result in
    let h : 8388608 ≤ sum = c.if-sum-lt8388608.false in
    let low = below-24 x.result y.result z.result x.ensures.bound y.ensures.bound z.ensures.bound in
    cast_same w64 w32 (to_z w64 sum -ℤ pos 16777216) (fits-64 sum h low) (fits-32 sum h low) ∙ less sum h low
    ∙ sym (upper 8388608 sum h low)
    ∙ ap (twos 16777216) (spelt-24 c.args.part.now x.result y.result z.result c.if-part-lt3.false x.ensures.value y.ensures.value z.ensures.value)
