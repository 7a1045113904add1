-- Bytes that are laid over a buffer one behind the other.
use Prim.Native.Nat.{ℕ, min, ◌+◌, ◌-◌, ◌≤◌}
use mathlib.Core.Path.{◌≡◌, refl, sym, ◌∙◌, ap}
use mathlib.Core.List.{List, [], ◌++◌, append-nil, append_assoc}
use mathlib.Core.Bool.{Bool, true, false}
use native.Mathlib.Nat.{le_of_eq}
use native.Mathlib.Omega.{arith}
use lib.Dec.{ltb}
use lib.ListN.{length, take, drop, length-append, length-drop, take-append-drop, drop_of_length-le}
use lib.Seq.{length-take-le, take-length, take-append-le, take-append-add, take-append_seam, take_at, drop_at, drop-drop}
use borrow.Author.Tests.{ltb-true, ltb-false}
use Rattle.laws.proofs.Parts.{tail}
use Rattle.chain.specs.Copied.{laid_at}

-- as much of two lists as m: of the first n, and the rest of the second
pub take-both : (m : ℕ) (c rest : List ℕ) → take m (c ++ rest) ≡ take (min (length c) m) c ++ take (m - min (length c) m) rest
take-both m c rest = go (ltb (length c) m) refl
  where
    go : (b : Bool) → ltb (length c) m ≡ b → take m (c ++ rest) ≡ take (min (length c) m) c ++ take (m - min (length c) m) rest
    go false t =
        let h = ltb-false (length c) m t in
        let n : min (length c) m ≡ m = omega arith in
        let z : m - m ≡ 0 = omega arith in
        rw (n, z, append-nil (take m c)) (take-append-le m c rest h)
    go true t =
        let h = ltb-true (length c) m t in
        let n : min (length c) m ≡ length c = omega arith in
        let e : m ≡ length c + (m - length c) = omega arith in
        rw (n, take-length c) (ap (λ x. take x (c ++ rest)) e ∙ take-append-add c rest (m - length c))

-- nothing is laid
pub laid-nothing : (at : ℕ) (b : List ℕ) → laid_at at [] b ≡ b
laid-nothing at b = let e : at + 0 ≡ at = omega arith in rw e (take-append-drop at b)

-- p and behind it q
pub laid_both : (at : ℕ) (p q b : List ℕ) → at ≤ length b → laid_at at (p ++ q) b ≡ laid_at (at + length p) q (laid_at at p b)
laid_both at p q b h =
    let n = length-take-le at b h in
    let l : length (take at b ++ p) ≡ at + length p = rw (length-append, n) in
    let a = append_assoc (take at b) p (drop (at + length p) b) in
    let t : take (at + length p) (laid_at at p b) ≡ take at b ++ p
    = rw (← a) (take_at (take at b ++ p) (drop (at + length p) b) (at + length p) l) in
    let d : drop (at + length p + length q) (laid_at at p b) ≡ drop (at + length p + length q) b
    = sym (drop-drop (length q) (at + length p) (laid_at at p b))
    ∙ rw (← a, drop_at (take at b ++ p) (drop (at + length p) b) (at + length p) l) (drop-drop (length q) (at + length p) b) in
    let e : at + length (p ++ q) ≡ at + length p + length q = rw length-append (omega arith) in
    rw (t, d, e, append_assoc p q _) (sym (append_assoc (take at b) p _))

-- as much of two lists as m, in two turns
pub laid_on : (at m : ℕ) (c rest b : List ℕ) → at ≤ length b → let n = min (length c) m in
    laid_at at (take m (c ++ rest)) b ≡ laid_at (at + n) (take (m - n) rest) (laid_at at (take n c) b)
laid_on at m c rest b h =
    let n = min (length c) m in
    let l : length (take n c) ≡ n = length-take-le n c (omega arith) in
    ap (λ q. laid_at at q b) (take-both m c rest)
    ∙ laid_both at (take n c) (take (m - n) rest) b h
    ∙ ap (λ x. laid_at (at + x) (take (m - n) rest) (laid_at at (take n c) b)) l

-- a part to the end of the buffer, as it is lent and taken back
pub laid-part : (at : ℕ) (q b : List ℕ) → at + length q ≤ length b
    → let part = take (length b - at) (drop at b) in
    take at b ++ (take (length q) q ++ drop (length q) part ++ drop (length b - at) (drop at b)) ≡ laid_at at q b
laid-part at q b h =
    let z : drop (length b - at) (drop at b) ≡ [] = drop_of_length-le (drop at b) (le_of_eq (length-drop at b)) in
    rw (take-length q, tail b at, z, append-nil (q ++ drop (length q) (drop at b)), drop-drop (length q) at b)

-- the buffer keeps its length
pub laid-length : (at : ℕ) (q b : List ℕ) → at + length q ≤ length b → length (laid_at at q b) ≡ length b
laid-length at q b h = rw (length-append, length-append, length-take-le at b (omega arith), length-drop) (omega arith)

-- what q was laid into first begins with it
pub through : (q rest : List ℕ) {after : List ℕ} {n : ℕ} → n ≡ length q → after ≡ take (length q) q ++ rest → take (n - 0) (drop 0 after) ≡ q
through q rest {n = n} e f = let m : n - 0 ≡ length q = omega (arith, e) in rw (m, f, take-length q) (take-append_seam q rest)

-- that part, where what is laid in it is known by another name
pub laid_through : (at : ℕ) (q b : List ℕ) {s : List ℕ} → s ≡ q → at + length q ≤ length b
    → let part = take (length b - at) (drop at b) in
    take at b ++ (take (length s) s ++ drop (length s) part ++ drop (length b - at) (drop at b)) ≡ laid_at at q b
laid_through at q b e h = rw e (laid-part at q b h)
