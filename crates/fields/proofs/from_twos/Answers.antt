-- The lower half of the patterns are the numbers themselves, the upper half those from -top on.
use Prim.Native.Nat.{◌-◌, ◌^◌, ◌<◌}
use mathlib.Core.Path.{sym}
use native.Mathlib.Omega.{arith}
use lib.IntN.{negsuc}
use mir.Facts.{to_z_pos, to_z-of_z}
use mir.Syntax.{w64}
use Rattle.fields.proofs.Twos.{lower, upper, minus}
use Rattle.fields.proofs.from_twos.Goals as goal

pub overflow_sub-result-else-v-top-3 : goal.overflow_sub-result-else-v-top-3
overflow_sub-result-else-v-top-3 c =
    let a = c.args in
    let h : a.top - 1 - (a.v - a.top) < 2 ^ 63 = omega arith in
    rw (minus (a.top - 1 - (a.v - a.top)) h) (record { sfits = h })

pub returns-then-v-top : goal.returns-then-v-top
returns-then-v-top c =
    let a = c.args in
    rw (to_z_pos w64 {n = a.v} (omega arith)) (record { value = sym (lower a.top a.v c.if-v-top.true); bound = c.if-v-top.true })

pub returns-else-v-top : goal.returns-else-v-top
returns-else-v-top c =
    let a = c.args in
    let n = a.top - 1 - (a.v - a.top) in
    let h : n < 2 ^ 63 = omega arith in
    rw (minus n h, to_z-of_z {w = w64} {z = negsuc n} (record { sfits = h }))
    (record { value = sym (upper a.top a.v c.if-v-top.false c.requires.within); bound = omega arith })
