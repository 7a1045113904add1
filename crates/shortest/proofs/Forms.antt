-- A form that was read, put together again: its bytes are given by its value and how many they are.
use Prim.Native.Nat.{ℕ, suc, ◌+◌, ◌-◌, ◌*◌, ◌/◌, ◌%◌, ◌^◌, ◌≤◌, ◌<◌}
use mathlib.Core.Path.{◌≡◌, refl, sym, ap, ◌∙◌}
use mathlib.Core.List.{List, [], ◌∷◌}
use native.Mathlib.Nat.{sub-zero}
use native.Mathlib.Numerals.{add-one}
use native.Mathlib.Omega.{arith}
use lib.Dec.{eqb}
use lib.ListN.{length, take}
use borrow.Author.Tests.{ne_eqb}
use Rattle.laws.specs.Pick.{pick}
use Rattle.varint.specs.declared.Number.{Number}
use Rattle.varint.specs.Varint.{varint_of}
use Rattle.varint.proofs.Found.{Reads, ninth, last, next, found}
use Rattle.shortest.specs.Shortest.{digits, sevens, encode}
use Rattle.shortest.specs.Forms.{Bytes, written, WriteAfterRead, OneShortest}
use Rattle.shortest.proofs.Digits.{digits-most}
use Rattle.shortest.proofs.Laws.{by_size, encode-below, encode-above, length-below, length_above, shortest-length, is-shortest}
use Rattle.shortest.proofs.Bytes.{bytes-encode}
use Rattle.shortest.proofs.Written.{encode-found}
use Rattle.std.specs.Prelude.{Ok}

-- the form of n bytes that v has
abbrev form : ℕ → ℕ → List ℕ
form n v = pick (eqb n 9) (sevens 8 (v / 256) ((v % 256) ∷ [])) (sevens (n - 1) (v / 128) ((v % 128) ∷ []))

-- one digit more in front: w has it last, and v before it
sevens-next : (n w v b : ℕ) (s : List ℕ) → w / 128 ≡ v → 128 + w % 128 ≡ b → sevens n v (b ∷ s) ≡ sevens (n + 1) w s
unfolding sevens
sevens-next n w v b s e f = rw (add-one, ← e, ← f)

length-past : {x : Number} {k n v : ℕ} {s : List ℕ} → Reads x k n v s → n < x.length
length-past (ninth h p) = let q = ap (λ y. y.length) p in omega arith
length-past (last h c p) = let q = ap (λ y. y.length) p in omega arith
length-past (next h c r) = let t = length-past r in omega arith

-- n bytes are read and give v: with them in front, those to come are the form of the number that is found
put-together : {x : Number} {k n v : ℕ} {s : List ℕ} → Bytes s → Reads x k n v s
    → sevens n v (take (x.length - n) s) ≡ form x.length x.value
put-together bytes (ninth {n = n} {v} {b} h p) =
    let l = bytes 0 in
    let e : (v * 256 + b) / 256 ≡ v = omega arith in
    let f : (v * 256 + b) % 256 ≡ b = omega arith in
    rw (← p, h, e, f)
put-together bytes (last {n = n} {v} {b} h c p) =
    let e : (v * 128 + b) / 128 ≡ v = omega arith in
    let f : (v * 128 + b) % 128 ≡ b = omega arith in
    let one : n + 1 - n ≡ 1 = omega arith in
    let less : n + 1 - 1 ≡ n = omega arith in
    rw (← p, ne_eqb (n + 1) 9 (λ z. h (omega arith)), one, less, e, f)
put-together {x} bytes (next {n = n} {v} {b} {s} h c r) =
    let l = length-past r in
    let below = bytes 0 in
    let more : x.length - n ≡ suc (x.length - (n + 1)) = omega arith in
    rw more
    (sevens-next n (v * 128 + b % 128) v b (take (x.length - (n + 1)) s) (omega arith) (omega arith)
    ∙ put-together (λ i. bytes (suc i)) r)

read-form : (s : List ℕ) (n : Number) → Bytes s → varint_of 9 s ≡ Ok n → take n.length s ≡ form n.length n.value
unfolding sevens
read-form s n bytes e = let p = put-together {n = 0} bytes (found 9 0 0 s e) in rw sub-zero at p

encode-form : (v : ℕ) → form (length (encode v)) v ≡ encode v
encode-form v = by_size v below (λ h. rw (length_above v h, encode-above v h))
  where
    below : v < 2 ^ 56 → form (length (encode v)) v ≡ encode v
    below h =
        let n : ℕ = digits 7 (v / 128) in
        let l : n ≤ 7 = digits-most 7 (v / 128) in
        let less : n + 1 - 1 ≡ n = omega arith in
        rw (length-below v h, ne_eqb (n + 1) 9 (λ z. omega arith), less, encode-below v h)

pub write-after-read : WriteAfterRead
write-after-read s n bytes e f =
    let l = shortest-length n f in
    read-form s n bytes e ∙ ap (λ k. form k n.value) l ∙ encode-form n.value

pub one-shortest : OneShortest
one-shortest = (
  (λ s t n m a b e f h p q.
      let same : encode n.value ≡ encode m.value = ap encode h in
      write-after-read s n a e p ∙ same ∙ sym (write-after-read t m b f q)),
  (λ v l. (bytes-encode v, encode-found v l, is-shortest (written v) refl)),
)
