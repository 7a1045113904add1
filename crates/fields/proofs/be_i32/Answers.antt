-- A number of 32 bits fits `i32`.
use mathlib.Core.Path.{◌∙◌}
use native.Mathlib.Omega.{arith}
use mir.Syntax.{w32, w64}
use Rattle.laws.proofs.Casts.{cast_fits, cast_same}
use Rattle.fields.proofs.be_i32.Goals as goal

pub overflow_cast-result : goal.overflow_cast-result
overflow_cast-result c =
    let r = c.signed_spelt in
    cast_fits w64 w32 r.result (record { sfits = r.type_inv }) (record { sfits = omega (arith, r.ensures.bound) })

pub returns : goal.returns
returns c =
    let r = c.signed_spelt in
    cast_same w64 w32 r.result (record { sfits = r.type_inv }) (record { sfits = omega (arith, r.ensures.bound) }) ∙ r.ensures.value
