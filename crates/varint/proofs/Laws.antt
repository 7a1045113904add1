-- What callers cite of varints: that of one byte, how long one is, that a longer limit finds what a shorter one does, and no more of that
-- length; that bytes behind a varint do not matter and are left there; and how large a number of at most eight bytes is.
use Prim.Native.Nat.{ℕ, zero, suc, ◌+◌, ◌^◌, ◌≤◌, ◌<◌}
use mathlib.Core.Path.{◌≡◌, ap}
use mathlib.Core.Logic.{◌↔◌}
use mathlib.Core.List.{List, ◌++◌}
use native.Mathlib.Nat.{sub-zero, zero-add}
use native.Mathlib.Omega.{arith}
use lib.Dec.{lit<}
use lib.ListN.{length, drop, get_or}
use lib.Seq.{drop-append-le}
use Rattle.laws.proofs.Powers.{digit-more, digits-within}
use Rattle.varint.specs.declared.Number.{Number}
use Rattle.varint.specs.Varint.{number, varint_of}
use Rattle.varint.proofs.Steps as Steps
use Rattle.varint.proofs.Found.{Reads, ninth, last, next, found, is_found}
use Rattle.std.specs.Prelude.{Ok}

took : {x : Number} {k n v : ℕ} {s : List ℕ} → n ≤ 8 → Reads x k n v s → (n < x.length) × (x.length ≤ n + k) × (x.length ≤ n + length s) × (x.length ≤ 9)
took l (ninth h p) = let q = ap (λ y. y.length) p in omega arith
took l (last h b p) = let q = ap (λ y. y.length) p in omega arith
took l (next h b r) = let t = took (omega arith) r in omega arith

widened : {x : Number} {k n v : ℕ} {s : List ℕ} (j : ℕ) → k ≤ j → Reads x k n v s → Reads x j n v s
widened zero l (ninth h p) = absurd (omega arith)
widened zero l (last h b p) = absurd (omega arith)
widened zero l (next h b r) = absurd (omega arith)
widened (suc j) l (ninth h p) = ninth h p
widened (suc j) l (last h b p) = last h b p
widened {n = n} {v = v} (suc j) l (next {k = k} h b r) = next h b (widened {k = k} j (omega arith) r)

narrowed : {x : Number} {j n v : ℕ} {s : List ℕ} (k : ℕ) → n ≤ 8 → x.length ≤ n + k → Reads x j n v s → Reads x k n v s
narrowed zero l t r = let u = took l r in absurd (omega arith)
narrowed (suc k) l t (ninth h p) = ninth h p
narrowed (suc k) l t (last h b p) = last h b p
narrowed (suc k) l t (next {k = j} h b r) = next h b (narrowed {j = j} k (omega arith) (omega arith) r)

continued : {x : Number} {k n v : ℕ} {s : List ℕ} (z : List ℕ) → Reads x k n v s → Reads x k n v (s ++ z)
continued z (ninth h p) = ninth h p
continued z (last h b p) = last h b p
continued z (next h b r) = next h b (continued z r)

-- seven bits a byte, where the ninth is not come to
small : {x : Number} {k n v : ℕ} {s : List ℕ} → n + k ≤ 8 → v < 128 ^ n → Reads x k n v s → x.value < 128 ^ x.length
small l b (ninth h p) = absurd (omega arith)
small {n = n} l b (last h c p) = rw (← p) (digit-more 128 n b c)
small {n = n} l b (next h c r) = small (omega arith) (digit-more 128 n b (omega arith)) r

-- a byte whose top bit is clear is a number
pub one_byte : (s : List ℕ) (limit : ℕ) → 1 ≤ limit → 0 < length s → get_or s 0 0 < 128 → varint_of limit s ≡ Ok (number (get_or s 0 0) 1)
one_byte s limit h l b =
    let e = Steps.last limit s 0 0 (omega arith) l (λ z. absurd (omega arith)) b in
    rw (sub-zero, zero-add) at e

module _ (s : List ℕ) {n : Number} where
  -- a varint takes one byte at least, and no more than the limit, the bytes there are, and nine
  pub length-bounds : (limit : ℕ) → varint_of limit s ≡ Ok n → (1 ≤ n.length) × (n.length ≤ limit) × (n.length ≤ length s) × (n.length ≤ 9)
  length-bounds limit e = let t = took {n = 0} (omega arith) (found limit 0 0 s e) in omega arith

  pub value-below : (limit : ℕ) → limit ≤ 8 → varint_of limit s ≡ Ok n → n.value < 128 ^ limit
  value-below limit h e =
      digits-within 128 n.length limit (lit< tt) (length-bounds limit e).1 (small {n = 0} (omega arith) (lit< tt) (found limit 0 0 s e))

  pub longer-limit : (k j : ℕ) → k ≤ j → varint_of k s ≡ Ok n → varint_of j s ≡ Ok n
  longer-limit k j h e = is_found (widened j h (found k 0 0 s e))

  -- two limits that both find a number find the same
  pub same_number : (k j : ℕ) {m : Number} → k ≤ j → varint_of k s ≡ Ok n → varint_of j s ≡ Ok m → n ≡ m
  same_number k j h e f = let g = longer-limit k j h e in cc

  pub shorter-limit : (k j : ℕ) → n.length ≤ k → varint_of j s ≡ Ok n → varint_of k s ≡ Ok n
  shorter-limit k j h e = is_found (narrowed k (omega arith) (omega arith) (found j 0 0 s e))

  pub bytes-behind : (limit : ℕ) (z : List ℕ) → varint_of limit s ≡ Ok n → varint_of limit (s ++ z) ≡ Ok n
  bytes-behind limit z e = is_found (continued z (found limit 0 0 s e))

  pub left_behind : (limit : ℕ) (z : List ℕ) → varint_of limit s ≡ Ok n → drop n.length (s ++ z) ≡ drop n.length s ++ z
  left_behind limit z e = drop-append-le n.length s z (length-bounds limit e).2

  -- the reading of nine bytes finds a varint of at most five exactly where that of five finds it
  pub five-of-nine : (varint_of 5 s ≡ Ok n) ↔ ((varint_of 9 s ≡ Ok n) × (n.length ≤ 5))
  five-of-nine = (
    (λ e. (longer-limit 5 9 (omega arith) e, (length-bounds 5 e).1)),
    (λ h. shorter-limit 5 9 h.1 h.0),
  )
