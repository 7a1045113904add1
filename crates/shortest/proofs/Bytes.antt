-- What is written are bytes.
use Prim.Native.Nat.{ℕ, zero, suc, ◌+◌, ◌/◌, ◌%◌, ◌<◌}
use mathlib.Core.List.{List, [], ◌∷◌}
use native.Mathlib.Omega.{arith}
use lib.Dec.{lit<}
use Rattle.shortest.specs.Shortest.{digits, sevens, encode}
use Rattle.shortest.specs.Forms.{Bytes}
use Rattle.shortest.proofs.Laws.{by_size, encode-below, encode-above}

bytes-cons : (b : ℕ) (s : List ℕ) → b < 256 → Bytes s → Bytes (b ∷ s)
bytes-cons b s h bytes zero = h
bytes-cons b s h bytes (suc i) = bytes i

bytes-sevens : (n v : ℕ) (s : List ℕ) → Bytes s → Bytes (sevens n v s)
unfolding sevens
bytes-sevens zero v s bytes = bytes
bytes-sevens (suc n) v s bytes =
    bytes-sevens n (v / 128) ((128 + v % 128) ∷ s) (bytes-cons (128 + v % 128) s (omega arith) bytes)

bytes-ended : (n v b : ℕ) → b < 256 → Bytes (sevens n v (b ∷ []))
bytes-ended n v b h = bytes-sevens n v (b ∷ []) (bytes-cons b [] h (λ i. lit< tt))

pub bytes-encode : (v : ℕ) → Bytes (encode v)
bytes-encode v =
    by_size v
    (λ h. rw (encode-below v h) (bytes-ended (digits 7 (v / 128)) (v / 128) (v % 128) (omega arith)))
    (λ h. rw (encode-above v h) (bytes-ended 8 (v / 256) (v % 256) (omega arith)))
