-- What the sum of bytes and powers obeys: one byte more, the end, and the bound.
use Prim.Native.Nat.{ℕ, zero, suc, ◌+◌, ◌-◌, ◌*◌, ◌^◌, ◌≤◌, ◌<◌}
use mathlib.Core.Path.{◌≡◌, sym, ◌∙◌}
use mathlib.Core.List.{List, [], ◌∷◌}
use native.Mathlib.Nat.{pow-succ', add-mul, mul_assoc, add_assoc, mul-one, add-zero, zero-mul, zero-add, min-le_left}
use native.Mathlib.Numerals.{add-one}
use native.Mathlib.Omega.{arith}
use lib.Arith.{digits_lt}
use lib.Dec.{lit<}
use lib.ListN.{length, take, drop, get_or, length-take, length-drop, drop_of_length-le}
use lib.Seq.{length-take-le, drop-cons, take_all, take-length, get_or-drop}
use Rattle.laws.proofs.Powers.{digits-within}
use Rattle.fields.specs.Fields.{be, unsigned}

-- v, and then the bytes of s behind it: what a reader holds on its way
unfoldable pub spells : ℕ → List ℕ → ℕ
spells v s = v * 256 ^ length s + be s

pub spells-nil : (v : ℕ) → spells v [] ≡ v
unfolding spells be
spells-nil v = rw (mul-one, add-zero)

pub spells-cons : (v b : ℕ) (s : List ℕ) → spells v (b ∷ s) ≡ spells (v * 256 + b) s
unfolding spells be
spells-cons v b s = rw (pow-succ', ← add_assoc, ← mul_assoc, ← add-mul)

pub spells-zero : (s : List ℕ) → spells 0 s ≡ be s
unfolding spells
spells-zero s = rw (zero-mul, zero-add)

-- a field of w bytes of which i are read and give v
module _ (s : List ℕ) (w i v : ℕ) where
  pub next : i < w → i < length s
      → spells v (take (w - i) (drop i s)) ≡ spells (v * 256 + get_or s i 0) (take (w - (i + 1)) (drop (i + 1) s))
  next h k =
      let e : w - i ≡ suc (w - (i + 1)) = omega arith in
      rw (e, add-one, drop-cons s i 0) (spells-cons v (get_or s i 0) (take (w - suc i) (drop (suc i) s)))

  pub whole : w ≤ i → spells v (take (w - i) (drop i s)) ≡ v
  whole h = let e : w - i ≡ 0 = omega arith in rw e (spells-nil v)

-- a part that is shorter than the field is all of it
pub ends-early : (s : List ℕ) (w : ℕ) → length s ≤ w → unsigned (length s) s ≡ unsigned w s
ends-early s w h = rw (take-length s, take_all w s h)

-- a field of which i bytes are read and give v
module _ (s : List ℕ) (i v : ℕ) where
  pub one-more : i < length s → spells v (drop i s) ≡ spells (v * 256 + get_or s i 0) (drop (i + 1) s)
  one-more h = rw (add-one, drop-cons s i 0) (spells-cons v (get_or s i 0) (drop (suc i) s))

  pub all : length s ≤ i → spells v (drop i s) ≡ v
  all h = rw (drop_of_length-le s h) (spells-nil v)

-- six bytes are a field of two and one of four
module _ (s : List ℕ) (h : 6 ≤ length s) where
  front : unsigned 2 s ≡ spells 0 (take 2 (drop 0 s))
  front = sym (spells-zero (take 2 s))

  behind : spells 0 (take 6 (drop 0 s)) ≡ unsigned 2 s * 4294967296 + unsigned 4 (drop 2 s)
  unfolding spells
  behind =
      let l : length (take 4 (drop 2 s)) ≡ 4 = length-take-le 4 (drop 2 s) (rw length-drop (omega arith)) in
      let v = front ∙ next s 2 0 0 (omega arith) (omega arith) ∙ next s 2 1 _ (omega arith) (omega arith) ∙ whole s 2 2 _ (omega arith) in
      next s 6 0 0 (omega arith) (omega arith) ∙ next s 6 1 _ (omega arith) (omega arith) ∙ rw (← v, l)

  pub in_two : unsigned 6 s ≡ unsigned 2 s * 4294967296 + unsigned 4 (drop 2 s)
  in_two = sym (spells-zero (take 6 s)) ∙ behind

-- a field as the sum of its bytes times powers of 256
pub sum-of-three : (s : List ℕ) → 3 ≤ length s → unsigned 3 s ≡ get_or s 0 0 * 65536 + get_or s 1 0 * 256 + get_or s 2 0
sum-of-three s h =
    let e = sym (spells-zero (take 3 s)) ∙ next s 3 0 0 (omega arith) (omega arith) ∙ next s 3 1 _ (omega arith) (omega arith) ∙ next s 3 2 _ (omega arith) (omega arith) ∙ whole s 3 3 _ (omega arith) in
    e ∙ omega arith

pub sum-of-six : (s : List ℕ) → 6 ≤ length s
    → unsigned 6 s ≡ get_or s 0 0 * 1099511627776 + get_or s 1 0 * 4294967296 + get_or s 2 0 * 16777216 + get_or s 3 0 * 65536 + get_or s 4 0 * 256 + get_or s 5 0
sum-of-six s h =
    let e = sym (spells-zero (take 6 s)) ∙ next s 6 0 0 (omega arith) (omega arith) ∙ next s 6 1 _ (omega arith) (omega arith) ∙ next s 6 2 _ (omega arith) (omega arith) ∙ next s 6 3 _ (omega arith) (omega arith) ∙ next s 6 4 _ (omega arith) (omega arith) ∙ next s 6 5 _ (omega arith) (omega arith) ∙ whole s 6 6 _ (omega arith) in
    e ∙ omega arith

-- THE BOUND: bytes are below 256, so w of them spell a number below 256 to the w

abbrev pub Bytes : List ℕ → Type 0
Bytes s = (i : ℕ) → get_or s i 0 < 256

be-below : (s : List ℕ) → Bytes s → be s < 256 ^ length s
unfolding be
be-below [] bytes = lit< tt
be-below (b ∷ s) bytes =
    let rest = be-below s (λ i. bytes (suc i)) in
    rw pow-succ' (digits_lt (bytes 0) rest)

pub bytes_take : (n : ℕ) (s : List ℕ) → Bytes s → Bytes (take n s)
bytes_take zero s bytes i = lit< tt
bytes_take (suc n) [] bytes i = lit< tt
bytes_take (suc n) (b ∷ s) bytes zero = bytes 0
bytes_take (suc n) (b ∷ s) bytes (suc i) = bytes_take n s (λ j. bytes (suc j)) i

pub unsigned-below : (w : ℕ) (s : List ℕ) → Bytes s → unsigned w s < 256 ^ w
unsigned-below w s bytes =
    digits-within 256 (length (take w s)) w (lit< tt) (rw (length-take w s) (min-le_left w (length s)))
    (be-below (take w s) (bytes_take w s bytes))

pub bytes_drop : (n : ℕ) (s : List ℕ) → Bytes s → Bytes (drop n s)
bytes_drop n s bytes i = rw (get_or-drop n s i 0) (bytes (n + i))
