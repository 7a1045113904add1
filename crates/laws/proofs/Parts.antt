-- Parts of lists as the code hands them on.
use Prim.Native.Nat.{ℕ, zero, suc, ◌+◌, ◌-◌, ◌≤◌}
use mathlib.Core.Path.{◌≡◌, refl, sym}
use mathlib.Core.List.{List, [], ◌∷◌}
use native.Mathlib.Omega.{arith}
use native.Mathlib.Nat.{le_of_eq}
use lib.ListN.{length, take, drop, length-drop}
use lib.Seq.{take_all, take-nil, take-take}

-- `&t[at..]` is what follows `at`
pub tail : (t : List ℕ) (at : ℕ) → take (length t - at) (drop at t) ≡ drop at t
tail t at = take_all (length t - at) (drop at t) (le_of_eq (length-drop at t))

-- bytes of a part are bytes of what it was taken from
pub part : (m i n : ℕ) (l : List ℕ) → i + m ≤ n → take m (drop i (take n l)) ≡ take m (drop i l)
part m zero n l h = take-take m n l (omega arith)
part m (suc i) zero l h = absurd (omega arith)
part m (suc i) (suc n) [] h = refl
part m (suc i) (suc n) (x ∷ l) h = part m i n l (omega arith)

-- what follows in a part is a part of what follows
pub drop-take : (i n : ℕ) (l : List ℕ) → drop i (take n l) ≡ take (n - i) (drop i l)
drop-take zero n l = let e : n - 0 ≡ n = omega arith in rw e
drop-take (suc i) zero l = let e : 0 - suc i ≡ 0 = omega arith in rw e
drop-take (suc i) (suc n) [] = sym (take-nil (suc n - suc i))
drop-take (suc i) (suc n) (x ∷ l) = let e : suc n - suc i ≡ n - i = omega arith in rw e (drop-take i n l)
