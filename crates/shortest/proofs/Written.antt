-- Digits with their top bit set, read: after them the reader stands where their number is.
use Prim.Native.Nat.{ℕ, zero, suc, ◌+◌, ◌-◌, ◌*◌, ◌/◌, ◌%◌, ◌^◌, ◌≤◌, ◌<◌}
use mathlib.Core.Path.{◌≡◌, refl, ap}
use mathlib.Core.List.{List, [], ◌∷◌, ◌++◌}
use native.Mathlib.Numerals.{add-one}
use native.Mathlib.Omega.{arith}
use Rattle.varint.specs.declared.Number.{Number}
use Rattle.varint.specs.Varint.{number, varint_of}
use Rattle.varint.proofs.Found.{Reads, ninth, last, next, is_found}
use Rattle.varint.proofs.Laws.{bytes-behind, shorter-limit}
use Rattle.shortest.specs.Shortest.{digits, sevens, encode}
use Rattle.shortest.specs.Forms.{written, ReadAfterWrite}
use Rattle.shortest.proofs.Digits.{digits-most, digits-hold, digit-less}
use Rattle.shortest.proofs.Laws.{by_size, encode-below, encode-above, length-below, length_above}
use Rattle.std.specs.Prelude.{Ok}

before-ninth : (n : ℕ) → n < 8 → n ≡ 8 → ⊥
before-ninth n l e = omega arith

sevens-found : {x : Number} (n v : ℕ) (s : List ℕ) → n ≤ 8 → v < 128 ^ n → Reads x (9 - n) n v s → Reads x 9 0 0 (sevens n v s)
unfolding sevens
sevens-found zero v s l h r = let e : v ≡ 0 = omega arith in rw e at r
sevens-found {x} (suc n) v s l h r =
    let k : 9 - n ≡ suc (9 - suc n) = omega arith in
    let e : v / 128 * 128 + (128 + v % 128) % 128 ≡ v = omega arith in
    let on : Reads x (9 - suc n) (n + 1) (v / 128 * 128 + (128 + v % 128) % 128) s = rw (e, add-one) r in
    sevens-found n (v / 128) ((128 + v % 128) ∷ s) (omega arith) (digit-less n v h)
    (rw k (next {b = 128 + v % 128} (before-ninth n (omega arith)) (omega arith) on))

-- of at most seven digits and a last byte
below-found : (v : ℕ) → v < 2 ^ 56 → varint_of 9 (encode v) ≡ Ok (written v)
below-found v h =
    let n : ℕ = digits 7 (v / 128) in
    let l : n ≤ 7 = digits-most 7 (v / 128) in
    let k : 9 - n ≡ suc (8 - n) = omega arith in
    let e : v / 128 * 128 + v % 128 ≡ v = omega arith in
    rw (length-below v h, encode-below v h)
    (is_found (sevens-found n (v / 128) ((v % 128) ∷ []) (omega arith) (digits-hold 7 (v / 128) (omega arith))
    (rw k (last {b = v % 128} (before-ninth n (omega arith)) (omega arith) (ap (λ w. number w (n + 1)) e)))))

-- of eight digits and a byte
above-found : (v : ℕ) → 2 ^ 56 ≤ v → v < 2 ^ 64 → varint_of 9 (encode v) ≡ Ok (written v)
above-found v h l =
    let e : v / 256 * 256 + v % 256 ≡ v = omega arith in
    rw (length_above v h, encode-above v h)
    (is_found (sevens-found 8 (v / 256) ((v % 256) ∷ []) (omega arith) (omega arith) (ninth refl (ap (λ w. number w 9) e))))

pub encode-found : (v : ℕ) → v < 2 ^ 64 → varint_of 9 (encode v) ≡ Ok (written v)
encode-found v l = by_size v (below-found v) (λ h. above-found v h l)

pub read-after-write : ReadAfterWrite
read-after-write v rest l =
    let e = bytes-behind (encode v) 9 rest (encode-found v l) in
    (e, λ h. shorter-limit (encode v ++ rest) 5 9 h e)
