-- The upper field in two's complement and the lower behind it are the number of six bytes.
use Prim.Native.Nat.{◌*◌, ◌^◌, ◌≤◌, ◌<◌}
use native.Mathlib.Omega.{arith}
use lib.ListN.{length, drop}
use lib.IntN.{ℤ, pos, ◌+ℤ◌, ◌*ℤ◌}
use lib.Signed.{mag}
use mir.Syntax.{w16, w64}
use mir.Facts.{to_z-of_z, to_z_pos}
use Rattle.laws.proofs.Casts.{widen-fits, widen-same}
use Rattle.laws.proofs.Parts.{tail}
use Rattle.fields.specs.Fields.{unsigned}
use Rattle.fields.proofs.Laws.{Bytes, in_two, unsigned-below, bytes_drop}
use Rattle.fields.proofs.Twos.{moved, held, joined}
use Rattle.fields.proofs.load_i48.Goals as goal

pub overflow_cast-result : goal.overflow_cast-result
overflow_cast-result c = widen-fits w16 c.be_i16.result c.be_i16.type_inv tt

pub overflow_mul-result : goal.overflow_mul-result
overflow_mul-result c =
    let r = c.be_i16 in
    record { sfits = rw (widen-same w16 r.result r.type_inv tt) (moved r.result (omega (arith, r.type_inv))) }

pub overflow_add-result : goal.overflow_add-result
overflow_add-result c =
    let r = c.be_i16 in
    let b = c.spelt in
    let low : b.result < 2 ^ 63 = omega (arith, b.ensures.bound) in
    let small : 2 * mag r.result < 256 ^ 2 = omega (arith, r.type_inv) in
    record {
      sfits = rw (widen-same w16 r.result r.type_inv tt, to_z-of_z {w = w64} {z = r.result *ℤ pos 4294967296} (record { sfits = moved r.result small }), to_z_pos w64 low)
          (held r.result b.result small b.ensures.bound);
    }

pub returns : goal.returns
returns c =
    let s = c.args.part.now in
    let r = c.be_i16 in
    let b = c.spelt in
    let low : b.result < 2 ^ 63 = omega (arith, b.ensures.bound) in
    let small : 2 * mag r.result < 256 ^ 2 = omega (arith, r.type_inv) in
    let whole : 6 ≤ length s = c.if-part-lt6.false in
    let bytes : Bytes s = λ i. (c.type_inv.part i).fits in
    let z : ℤ = r.result *ℤ pos 4294967296 in
    rw (widen-same w16 r.result r.type_inv tt, to_z-of_z {w = w64} {z = z} (record { sfits = moved r.result small }), to_z_pos w64 low, to_z-of_z {w = w64} {z = z +ℤ pos b.result} (record { sfits = held r.result b.result small b.ensures.bound }), r.ensures, in_two s whole, b.ensures.value, tail s 2)
    (joined (unsigned 2 s) (unsigned 4 (drop 2 s)) (unsigned-below 2 s bytes) (unsigned-below 4 (drop 2 s) (bytes_drop 2 s bytes)))
