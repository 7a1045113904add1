-- What the code takes from an answer: the number or the child, or 0.
use mathlib.Core.Path.{◌≡◌}
use lib.IntN.{ℤ, pos}
use Rattle.laws.proofs.Never.{never}
use Rattle.answers.specs.declared.Refusal.{Refusal}
use Rattle.cell.specs.declared.Numbers.{Numbers}
use Rattle.standing.specs.Rows.{number_by, child_by}
use Rattle.std.specs.Prelude.{Err, Ok, Result}

pub number-none : (x : Result ℤ Refusal) {r : Refusal} → x ≡ Err r → number_by x ≡ pos 0
number-none (Err r) e = cc
number-none (Ok x) e = never cc

pub number-told : (x : Result ℤ Refusal) {z : ℤ} → x ≡ Ok z → number_by x ≡ z
number-told (Err r) e = never cc
number-told (Ok x) e = cc

pub child-none : (x : Result Numbers Refusal) {r : Refusal} → x ≡ Err r → child_by x ≡ 0
child-none (Err r) e = cc
child-none (Ok n) e = never cc

pub child-told : (x : Result Numbers Refusal) {n : Numbers} → x ≡ Ok n → child_by x ≡ n.child
child-told (Err r) e = never cc
child-told (Ok n) e = cc
