-- The rule of a table: a test of an entry and its place that is computed over the whole table once, and then holds at each.
use Prim.Native.Nat.{ℕ, zero, suc, ◌<◌}
use mathlib.Core.List.{List, [], ◌∷◌}
use mathlib.Core.Bool.{Bool, true, ◌&&◌}
use native.Mathlib.Omega.{arith}
use lib.Dec.{T}
use lib.ListN.{length, get_or}
use mir.Facts.{and_yes}

-- the test holds of every place and what stands there
abbrev pub throughout : (ℕ → ℕ → Bool) → List ℕ → Bool
throughout test [] = true
throughout test (x ∷ xs) = test 0 x && throughout (λ k. test (suc k)) xs

pub at : (test : ℕ → ℕ → Bool) (xs : List ℕ) → T (throughout test xs) → (k : ℕ) → k < length xs → T (test k (get_or xs k 0))
at test [] t k h = absurd (omega arith)
at test (x ∷ xs) t zero h = (and_yes (test 0 x) (throughout (λ k. test (suc k)) xs) t).0
at test (x ∷ xs) t (suc k) h =
    at (λ k. test (suc k)) xs (and_yes (test 0 x) (throughout (λ k. test (suc k)) xs) t).1 k (omega arith)
