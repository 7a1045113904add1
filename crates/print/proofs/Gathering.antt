-- Bytes that are gathered one after the other.
use Rattle.std.proofs.Common.{◌≡◌, ℕ, ◌+◌, ◌-◌, ◌/◌, ◌%◌, ◌<◌, ◌≤◌, List, [], ◌∷◌, ◌++◌, length, get_or, set, take, drop, refl, sym, ap, ◌∙◌, subst, append_assoc, add-one, arith, Result, Ok, Err, IfOk, OnErr}
use lib.ListN.{take-append-drop}
use lib.Seq.{take-add, take-length, take-suc}
use borrow.Author.Tests.{lt-ltb, le-ltb}
use Rattle.print.specs.Digits.{hex_digit_ascii}
use Rattle.print.specs.Hex.{hex_of}
use Rattle.print.specs.Gathered.{Gathered, HoldsBeginning, gathered, put, puts}

puts-append : (s t : List ℕ) (x : Gathered) → puts (s ++ t) x ≡ puts t (puts s x)
unfolding puts
puts-append [] t x = refl
puts-append (b ∷ s) t x = puts-append s t (put b x)

-- one call behind another
pub on : (s t : List ℕ) (x y z : Gathered) → y ≡ puts s x → z ≡ puts t y → z ≡ puts (s ++ t) x
on s t x y z e f = f ∙ ap (puts t) e ∙ sym (puts-append s t x)

pub none : (x : Gathered) → x ≡ puts [] x
unfolding puts
none x = refl

-- ONE BYTE

pub behind : (held : List ℕ) (at b : ℕ) → at < length held → gathered (set held at b) (at + 1) ≡ puts (b ∷ []) (gathered held at)
unfolding puts
behind held at b h = rw (lt-ltb at (length held) h)

pub anew : (held : List ℕ) (at b : ℕ) → length held ≤ at → 0 < length held → gathered (set held 0 b) 1 ≡ puts (b ∷ []) (gathered held at)
unfolding puts
anew held at b h k = rw (le-ltb at (length held) h, lt-ltb 0 (length held) k)

pub nowhere : (held : List ℕ) (at b : ℕ) → length held ≤ 0 → gathered held 0 ≡ puts (b ∷ []) (gathered held at)
unfolding puts
nowhere held at b h = let k : length held ≤ at = omega arith in rw (le-ltb at (length held) k, le-ltb 0 (length held) h)

-- LOOPS: the first bytes are put, one more is

pub first_more : (s : List ℕ) (i : ℕ) → i < length s → take (i + 1) s ≡ take i s ++ (get_or s i 0 ∷ [])
first_more s i h = rw add-one (take-suc s i 0 h)

pub hex_of-append : (s t : List ℕ) → hex_of (s ++ t) ≡ hex_of s ++ hex_of t
hex_of-append [] t = refl
hex_of-append (b ∷ s) t = ap (λ l. hex_digit_ascii (b / 16) ∷ hex_digit_ascii (b % 16) ∷ l) (hex_of-append s t)

-- the bytes from at on are behind those before it
pub hex_to : (s : List ℕ) (at k end : ℕ) → at + k ≡ end → hex_of (take at s) ++ hex_of (take k (drop at s)) ≡ hex_of (take end s)
hex_to s at k end e =
    sym (hex_of-append (take at s) (take k (drop at s)))
    ∙ ap hex_of (sym (take-add at k s))
    ∙ ap (λ (i : ℕ). hex_of (take i s)) e

pub hex_rest : (s : List ℕ) (at : ℕ) → at ≤ length s → hex_of (take at s) ++ hex_of (take (length s - at) (drop at s)) ≡ hex_of s
hex_rest s at h = hex_to s at (length s - at) (length s) (omega arith) ∙ ap hex_of (take-length s)

pub hex_more : (sort s : List ℕ) (i : ℕ) → i < length s
    → sort ++ hex_of (take (i + 1) s) ≡ (sort ++ hex_of (take i s)) ++ hex_of (get_or s i 0 ∷ [])
hex_more sort s i h =
    ap (λ l. sort ++ hex_of l) (first_more s i h)
    ∙ ap (λ l. sort ++ l) (hex_of-append (take i s) (get_or s i 0 ∷ []))
    ∙ sym (append_assoc sort (hex_of (take i s)) (hex_of (get_or s i 0 ∷ [])))

-- WHERE A WRITE FAILED

pub none_put : (s : List ℕ) (x : Gathered) → HoldsBeginning s x x.held
unfolding puts
none_put s x = record { begins = []; rest = s; parted = refl; put_first = refl }

pub put_some : (s t : List ℕ) (x : Gathered) (h : List ℕ) → HoldsBeginning s x h → HoldsBeginning (s ++ t) x h
put_some s t x h b =
    record { begins = b.begins; rest = b.rest ++ t; parted = ap (λ l. l ++ t) b.parted ∙ append_assoc b.begins b.rest t; put_first = b.put_first }

pub put_before : (s t : List ℕ) (x y : Gathered) (h : List ℕ) → y ≡ puts s x → HoldsBeginning t y h → HoldsBeginning (s ++ t) x h
put_before s t x y h e b =
    record {
      begins = s ++ b.begins;
      rest = b.rest;
      parted = ap (λ l. s ++ l) b.parted ∙ sym (append_assoc s b.begins b.rest);
      put_first = b.put_first ∙ ap (λ (z : Gathered). (puts b.begins z).held) e ∙ ap (λ (z : Gathered). z.held) (sym (puts-append s b.begins x));
    }

-- in a loop
pub put_part : (s : List ℕ) (i : ℕ) (x : Gathered) (h : List ℕ) → HoldsBeginning (take i s) x h → HoldsBeginning s x h
put_part s i x h b = subst (λ l. HoldsBeginning l x h) (take-append-drop i s) (put_some (take i s) (drop i s) x h b)

pub hex_part : (sort s : List ℕ) (i : ℕ) (x : Gathered) (h : List ℕ)
    → HoldsBeginning (sort ++ hex_of (take i s)) x h → HoldsBeginning (sort ++ hex_of s) x h
hex_part sort s i x h b =
    let e : (sort ++ hex_of (take i s)) ++ hex_of (drop i s) ≡ sort ++ hex_of s =
    append_assoc sort (hex_of (take i s)) (hex_of (drop i s))
    ∙ ap (λ l. sort ++ l) (sym (hex_of-append (take i s) (drop i s)))
    ∙ ap (λ l. sort ++ hex_of l) (take-append-drop i s) in
    subst (λ l. HoldsBeginning l x h) e (put_some _ (hex_of (drop i s)) x h b)

-- ONE TURN OF A LOOP

module _ (s : List ℕ) (i : ℕ) (x y : Gathered) (h : i < length s) where
  pub byte_put : (z : Gathered) → y ≡ puts (take i s) x → z ≡ puts (get_or s i 0 ∷ []) y → z ≡ puts (take (i + 1) s) x
  byte_put z e f = on (take i s) (get_or s i 0 ∷ []) x y z e f ∙ ap (λ l. puts l x) (sym (first_more s i h))

  pub byte_failed : (held : List ℕ) → y ≡ puts (take i s) x → HoldsBeginning (get_or s i 0 ∷ []) y held → HoldsBeginning s x held
  byte_failed held e b =
      put_part s (i + 1) x held
      (subst (λ l. HoldsBeginning l x held) (sym (first_more s i h)) (put_before (take i s) (get_or s i 0 ∷ []) x y held e b))

  pub pair_put : (sort : List ℕ) (z : Gathered) → y ≡ puts (sort ++ hex_of (take i s)) x → z ≡ puts (hex_of (get_or s i 0 ∷ [])) y
      → z ≡ puts (sort ++ hex_of (take (i + 1) s)) x
  pair_put sort z e f = on (sort ++ hex_of (take i s)) (hex_of (get_or s i 0 ∷ [])) x y z e f ∙ ap (λ l. puts l x) (sym (hex_more sort s i h))

  pub pair_failed : (sort held : List ℕ) → y ≡ puts (sort ++ hex_of (take i s)) x → HoldsBeginning (hex_of (get_or s i 0 ∷ [])) y held
      → HoldsBeginning (sort ++ hex_of s) x held
  pair_failed sort held e b =
      hex_part sort s (i + 1) x held
      (subst (λ l. HoldsBeginning l x held) (sym (hex_more sort s i h)) (put_before (sort ++ hex_of (take i s)) (hex_of (get_or s i 0 ∷ [])) x y held e b))

-- OF A CALL'S ANSWER

module _ {T E : Type 0} where
  pub failed : (r : Result T E) (P : Type 0) → P → OnErr r P
  failed (Ok v) P p = tt
  failed (Err e) P p = p

  pub failed_on : (r : Result T E) (s t : List ℕ) (x y : Gathered) (h : List ℕ)
      → y ≡ puts s x → OnErr r (HoldsBeginning t y h) → OnErr r (HoldsBeginning (s ++ t) x h)
  failed_on (Ok v) s t x y h e b = tt
  failed_on (Err f) s t x y h e b = put_before s t x y h e b

module _ {E : Type 0} where
  pub ok_on : (r : Result ℕ E) (s t : List ℕ) (x y : Gathered) (h : List ℕ)
      → y ≡ puts s x → IfOk r (λ n. gathered h n ≡ puts t y) → IfOk r (λ n. gathered h n ≡ puts (s ++ t) x)
  ok_on (Ok n) s t x y h e f = on s t x y (gathered h n) e f
  ok_on (Err e) s t x y h p f = tt
