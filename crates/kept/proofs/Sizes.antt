-- How large the numbers of a payload that spills are.
use Prim.Native.Nat.{ℕ, zero, suc, ◌+◌, ◌-◌, ◌*◌, ◌/◌, ◌%◌, ◌≤◌, ◌<◌}
use mathlib.Core.Path.{◌≡◌, refl, ap, ◌∙◌}
use mathlib.Core.Bool.{Bool, true, false}
use native.Mathlib.Nat.{add-mul, mod-lt, mod-le, mod-zero, mod-one, div-zero, div-lt_self, div-add-mod', lt-div-mul-add}
use native.Mathlib.Omega.{arith}
use lib.Dec.{leb, eqb}
use borrow.Author.Tests.{le-leb, lt-leb, eq-eqb, ne_eqb, eqb-true, eqb-false}
use Rattle.laws.specs.Pick.{pick}
use Rattle.kinds.specs.declared.Kind.{Kind}
use Rattle.kinds.specs.Kind.{most_whole}
use Rattle.kept.specs.Kept.{least_kept, even_kept, kept_of, links_of}

-- WHAT STAYS

-- K where it may stay, and M where it may not
module _ (k : Kind) (u p : ℕ) where
  pub kept-even : even_kept u p ≤ most_whole k u → kept_of k u p ≡ even_kept u p
  unfolding kept_of
  kept-even h = ap (λ b. pick b (even_kept u p) (least_kept u)) (le-leb (even_kept u p) (most_whole k u) h)

  pub kept-least : most_whole k u < even_kept u p → kept_of k u p ≡ least_kept u
  unfolding kept_of
  kept-least h = ap (λ b. pick b (even_kept u p) (least_kept u)) (lt-leb (even_kept u p) (most_whole k u) h)

pub least-below : (u : ℕ) → least_kept u ≤ u
least-below u = omega arith

pub even-below : (u p : ℕ) → 480 ≤ u → even_kept u p ≤ u + u
even-below u p h =
    let l : (p - least_kept u) % (u - 4) < u - 4 = mod-lt (p - least_kept u) (omega arith) in
    omega (arith, least-below u)

pub kept-below : (k : Kind) (u p : ℕ) → 480 ≤ u → kept_of k u p ≤ u + u
unfolding kept_of
kept-below k u p h = go (leb (even_kept u p) (most_whole k u))
  where
    go : (b : Bool) → pick b (even_kept u p) (least_kept u) ≤ u + u
    go true = even-below u p h
    go false = omega (arith, least-below u)

-- THE PAGES OF A CHAIN

-- where something is over, less pages are filled than there are bytes, of whatever width
pub fewer-filled : (n w : ℕ) → (n % w ≡ 0 → ⊥) → n / w < n
fewer-filled n zero h = let some : n ≡ 0 → ⊥ = λ z. h (mod-zero n ∙ z) in rw (div-zero n) (omega (arith, some))
fewer-filled n (suc zero) h = absurd (h (mod-one n))
fewer-filled n (suc (suc w)) h =
    let l = mod-le n (suc (suc w)) in
    let some : 0 < n = omega (arith, h, l) in
    div-lt_self some (omega arith)

module _ (u n : ℕ) where
  pub links-even : n % (u - 4) ≡ 0 → links_of u n ≡ n / (u - 4)
  unfolding links_of
  links-even e = ap (λ b. pick b (n / (u - 4)) (suc (n / (u - 4)))) (eq-eqb (n % (u - 4)) 0 e)

  pub links-over : (n % (u - 4) ≡ 0 → ⊥) → links_of u n ≡ suc (n / (u - 4))
  unfolding links_of
  links-over e = ap (λ b. pick b (n / (u - 4)) (suc (n / (u - 4)))) (ne_eqb (n % (u - 4)) 0 e)

  -- they hold what they are counted for
  pub links-hold : 480 ≤ u → n ≤ links_of u n * (u - 4)
  links-hold h = go (eqb (n % (u - 4)) 0) refl
    where
      go : (b : Bool) → eqb (n % (u - 4)) 0 ≡ b → n ≤ links_of u n * (u - 4)
      go true e = let z = eqb-true (n % (u - 4)) 0 e in rw (links-even z) (omega (arith, div-add-mod' n (u - 4)))
      go false e =
          let l : n < n / (u - 4) * (u - 4) + (u - 4) = lt-div-mul-add (omega arith) in
          rw (links-over (eqb-false (n % (u - 4)) 0 e)) (omega (arith, add-mul 1 (n / (u - 4)) (u - 4)))
