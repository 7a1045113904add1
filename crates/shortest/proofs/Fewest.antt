-- No form of a number has fewer bytes than what is written for it.
use Prim.Native.Nat.{ℕ, zero, suc, ◌/◌, ◌^◌, ◌≤◌, ◌<◌}
use mathlib.Core.Path.{◌≡◌, refl, sym, ap, ◌∙◌}
use mathlib.Core.List.{List}
use mathlib.Core.Bool.{Bool, true, false}
use native.Mathlib.Omega.{arith}
use lib.Dec.{ltb, lit<}
use lib.ListN.{length}
use borrow.Author.Tests.{lt-ltb, ltb-true, ltb-false}
use Rattle.laws.proofs.Powers.{digits-within}
use Rattle.varint.specs.declared.Number.{Number}
use Rattle.varint.specs.Varint.{varint_of}
use Rattle.varint.proofs.Laws.{length-bounds, shorter-limit, value-below, same_number}
use Rattle.shortest.specs.Shortest.{encode, shortest}
use Rattle.shortest.specs.Forms.{NoShorter, OneByte, FiveAsNine}
use Rattle.shortest.proofs.Digits.{digits-most, digits-fewest, digit-less}
use Rattle.shortest.proofs.Laws.{by_size, length-below, length_above, shortest-one, shortest-length, longer-length}
use Rattle.shortest.proofs.Written.{encode-found}
use Rattle.std.specs.Prelude.{Ok}

-- nine bytes at most are written, and fewer only below 2 ^ 56
length-nine : (v : ℕ) → (length (encode v) ≤ 9) × (length (encode v) < 9 → v < 2 ^ 56)
length-nine v =
    by_size v
    (λ h. let l = length-below v h in let d = digits-most 7 (v / 128) in (omega arith, λ k. h))
    (λ h. let l = length_above v h in (omega arith, λ k. absurd (omega arith)))

-- what n bytes of seven bits hold is written in n
length-fewest : (n v : ℕ) → 1 ≤ n → n ≤ 8 → v < 128 ^ n → length (encode v) ≤ n
length-fewest zero v h l b = absurd (omega arith)
length-fewest (suc n) v h l b =
    let e = length-below v (digits-within 128 (suc n) 8 (lit< tt) l b) in
    let d = digits-fewest 7 n (v / 128) (digit-less n v b) in
    omega arith

module _ (s : List ℕ) (n : Number) (e : varint_of 9 s ≡ Ok n) where
  pub encode-fewest : length (encode n.value) ≤ n.length
  encode-fewest = go (ltb n.length 9) refl
    where
      go : (b : Bool) → ltb n.length 9 ≡ b → length (encode n.value) ≤ n.length
      go true f =
          let l = ltb-true n.length 9 f in
          length-fewest n.length n.value (length-bounds s 9 e).0 (omega arith)
          (value-below s n.length (omega arith) (shorter-limit s n.length 9 (omega arith) e))
      go false f = let l = ltb-false n.length 9 f in let m = (length-nine n.value).0 in omega arith

  shorter-written : shortest n ≡ false → length (encode n.value) < n.length
  shorter-written f = let l = encode-fewest in let m = longer-length n f in omega arith

pub no-shorter : NoShorter
no-shorter s n e = (
  (λ f t m g h. let l = shortest-length n f in let k = rw h at (encode-fewest t m g) in omega arith),
  (λ f. let l = shorter-written s n e f in let b = length-bounds s 9 e in
      (l, encode-found n.value (let k = (length-nine n.value).1 (omega arith) in omega arith))),
)

pub one-byte-shortest : OneByte
one-byte-shortest limit s n e h =
    let f = value-below s 1 (omega arith) (shorter-limit s 1 limit (omega arith) e) in
    sym (shortest-one n h) ∙ lt-ltb n.value 128 f

pub five-as-nine : FiveAsNine
five-as-nine s n m e f = ap shortest (same_number s 5 9 (omega arith) e f)
