-- Runs of stores.
use Prim.Native.Nat.{ℕ, suc, ◌+◌}
use mathlib.Core.Path.{◌≡◌, ◌∙◌}
use mathlib.Core.List.{List, [], ◌∷◌, ◌++◌}
use native.Mathlib.Nat.{add-zero, add-suc, suc-add}
use lib.ListN.{length, set}
use lib.Seq.{sets}

-- one in two
pub sets-on : {A : Type 0} (some more list : List A) (at : ℕ) → sets list at (some ++ more) ≡ sets (sets list at some) (at + length some) more
sets-on [] more list at = rw add-zero
sets-on (w ∷ some) more list at = sets-on some more (set list at w) (suc at) ∙ rw (suc-add at (length some), add-suc at (length some))
