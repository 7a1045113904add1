-- What callers cite of heads and answers.
use Prim.Native.Nat.{◌≤◌}
use mathlib.Core.Path.{◌≡◌}
use native.Mathlib.Omega.{arith}
use Rattle.laws.proofs.Never.{never}
use Rattle.answers.specs.declared.Refusal.{Refusal}
use Rattle.kinds.specs.declared.Kind.{Kind}
use Rattle.kinds.specs.declared.Kind.TheVariants.{InteriorIndex, InteriorTable, LeafIndex, LeafTable}
use Rattle.page.specs.declared.Open.{Open}
use Rattle.page.specs.Head.{head_size}
use Rattle.std.specs.Prelude.{Err, Ok, Result}

-- a head has eight to twelve bytes
pub head_small : (k : Kind) → (8 ≤ head_size k) × (head_size k ≤ 12)
head_small InteriorIndex = omega arith
head_small InteriorTable = omega arith
head_small LeafIndex = omega arith
head_small LeafTable = omega arith

-- the code's answer is the definition's
pub open-answered : (x : Result Open Refusal) {o : Open} → x ≡ Ok o → x ≡ Ok o
open-answered (Err refusal) e = never cc
open-answered (Ok o) e = cc

pub open-unanswered : (x : Result Open Refusal) {refusal : Refusal} → x ≡ Err refusal → x ≡ Err refusal
open-unanswered (Err other) e = cc
open-unanswered (Ok o) e = never cc
