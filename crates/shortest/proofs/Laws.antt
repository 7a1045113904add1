-- The shortest form of a number: the two cases of its definition, and how long it is.
use Prim.Native.Nat.{ℕ, zero, suc, ◌+◌, ◌/◌, ◌%◌, ◌^◌, ◌≤◌, ◌<◌}
use mathlib.Core.Path.{◌≡◌, refl, sym, ap}
use mathlib.Core.List.{List, [], ◌∷◌}
use mathlib.Core.Bool.{Bool, true, false}
use native.Mathlib.Omega.{arith}
use lib.Dec.{ltb, eqb}
use lib.ListN.{length}
use borrow.Author.Tests.{lt-ltb, le-ltb, ltb-true, ltb-false, eq-eqb, ne_eqb, eqb-true, eqb-false}
use Rattle.varint.specs.declared.Number.{Number}
use Rattle.shortest.specs.Shortest.{digits, sevens, encode, shortest}
use Rattle.shortest.proofs.Digits.{digits-zero, digits_more}

pub length-sevens : (n v : ℕ) (s : List ℕ) → length (sevens n v s) ≡ n + length s
unfolding sevens
length-sevens zero v s = omega arith
length-sevens (suc n) v s = let e = length-sevens n (v / 128) ((128 + v % 128) ∷ s) in omega arith

module _ (v : ℕ) where
  -- what holds below 2 ^ 56 and from there on holds
  pub by_size : {A : Type 0} → (v < 2 ^ 56 → A) → (2 ^ 56 ≤ v → A) → A
  by_size {A} below above = go (ltb v (2 ^ 56)) refl
    where
      go : (b : Bool) → ltb v (2 ^ 56) ≡ b → A
      go true e = below (ltb-true v (2 ^ 56) e)
      go false e = above (ltb-false v (2 ^ 56) e)

  pub encode-below : v < 2 ^ 56 → encode v ≡ sevens (digits 7 (v / 128)) (v / 128) ((v % 128) ∷ [])
  unfolding encode
  encode-below h = rw (lt-ltb v (2 ^ 56) h)

  pub encode-above : 2 ^ 56 ≤ v → encode v ≡ sevens 8 (v / 256) ((v % 256) ∷ [])
  unfolding encode
  encode-above h = rw (le-ltb v (2 ^ 56) h)

  pub length-below : v < 2 ^ 56 → length (encode v) ≡ digits 7 (v / 128) + 1
  length-below h = rw (encode-below h, length-sevens)

  pub length_above : 2 ^ 56 ≤ v → length (encode v) ≡ 9
  length_above h = rw (encode-above h, length-sevens)

  -- one byte for what is below 128, and for nothing else
  pub length-one : eqb 1 (length (encode v)) ≡ ltb v 128
  length-one = go (ltb v 128) refl
    where
      longer : 128 ≤ v → length (encode v) ≡ 1 → ⊥
      longer l e =
          by_size
          (λ h. let k = length-below h in let m = digits_more 6 (v / 128) (λ z. omega arith) in omega arith)
          (λ h. let k = length_above h in omega arith)

      go : (b : Bool) → ltb v 128 ≡ b → eqb 1 (length (encode v)) ≡ b
      go true e =
          let l = ltb-true v 128 e in
          let k = length-below (omega arith) in
          let z = digits-zero 7 (v / 128) (omega arith) in
          eq-eqb 1 (length (encode v)) (omega arith)
      go false e = ne_eqb 1 (length (encode v)) (λ z. longer (ltb-false v 128 e) (sym z))

-- THE VERDICT

module _ (n : Number) where
  pub shortest-by : {l : ℕ} → l ≡ length (encode n.value) → eqb n.length l ≡ shortest n
  unfolding shortest
  shortest-by e = ap (λ k. eqb n.length k) e

  pub shortest-one : n.length ≡ 1 → ltb n.value 128 ≡ shortest n
  unfolding shortest
  shortest-one e = rw e (sym (length-one n.value))

  pub shortest-length : shortest n ≡ true → n.length ≡ length (encode n.value)
  unfolding shortest
  shortest-length e = eqb-true n.length (length (encode n.value)) e

  pub longer-length : shortest n ≡ false → n.length ≡ length (encode n.value) → ⊥
  unfolding shortest
  longer-length e = eqb-false n.length (length (encode n.value)) e

  pub is-shortest : n.length ≡ length (encode n.value) → shortest n ≡ true
  unfolding shortest
  is-shortest e = eq-eqb n.length (length (encode n.value)) e
