-- The digits of a number that are taken off its end, one by one.
use Rattle.std.proofs.Common.{◌≡◌, ℕ, suc, ◌+◌, ◌-◌, ◌*◌, ◌/◌, ◌%◌, ◌^◌, ◌<◌, ◌≤◌, List, [], ◌∷◌, ◌++◌, sym, ap, ◌∙◌, subst, append_assoc, append-nil, add-one, add-zero, zero-add, arith, length, drop, set, lt_of_not-le}
use native.Mathlib.Nat.{div-div-eq-div-mul, pow-suc, pow-zero, div-one, one-le-pow, le-div_iff_mul-le, div-lt_iff_lt-mul, pow-le-pow_right}
use lib.ListN.{drop_of_length-le}
use Rattle.std.proofs.lemmas.List.{drop-set}
use Rattle.print.specs.Digits.{hex_digit_ascii, last_digits}
use Rattle.print.specs.Text.{bits_of, decimal_of}
use Rattle.print.proofs.Places.{decimal-is}

-- k digits of n in base b are written, and rest is left of it
pub record Spelt (b n k rest : ℕ) (written : List ℕ) : Type 0 where
  pub left : rest ≡ n / b ^ k
  pub all : (j : ℕ) → last_digits b (j + k) n ≡ last_digits b j rest ++ written

pub start : (b n : ℕ) → Spelt b n 0 n []
start b n = record {
  left = sym (ap (λ (p : ℕ). n / p) (pow-zero b) ∙ div-one n);
  all = λ (j : ℕ). ap (λ (m : ℕ). last_digits b m n) (add-zero j) ∙ sym (append-nil (last_digits b j n));
}

pub step : (b n k rest : ℕ) (written : List ℕ) → Spelt b n k rest written → Spelt b n (k + 1) (rest / b) (hex_digit_ascii (rest % b) ∷ written)
step b n k rest written h = record {
  left =
      ap (λ (m : ℕ). m / b) h.left
      ∙ div-div-eq-div-mul n (b ^ k) b
      ∙ ap (λ (d : ℕ). n / d) (sym (pow-suc b k) ∙ ap (λ (j : ℕ). b ^ j) (sym (add-one k)));
  all = λ (j : ℕ).
      let e : j + (k + 1) ≡ suc j + k = omega arith in
      ap (λ (m : ℕ). last_digits b m n) e
      ∙ h.all (suc j)
      ∙ append_assoc (last_digits b j (rest / b)) _ written;
}

-- a digit is put before those from at on
pub put : (b n k rest at d : ℕ) (out : List ℕ) → Spelt b n k rest (drop (at + 1) out) → at < length out → d ≡ hex_digit_ascii (rest % b)
    → Spelt b n (k + 1) (rest / b) (drop at (set out at d))
put b n k rest at d out h l e =
    subst (λ w. Spelt b n (k + 1) (rest / b) w)
    (sym (drop-set out at d l ∙ ap (λ (x : ℕ). x ∷ drop (at + 1) out) e))
    (step b n k rest (drop (at + 1) out) h)

-- the last one
pub put_first : (b n at d : ℕ) (out : List ℕ) → length out ≤ at + 1 → at < length out → d ≡ hex_digit_ascii (n % b)
    → Spelt b n 1 (n / b) (drop at (set out at d))
put_first b n at d out h l e =
    put b n 0 n at d out (subst (λ w. Spelt b n 0 n w) (sym (drop_of_length-le out h)) (start b n)) l e

-- one more, of so many as there are places
pub put_next : (b n size rest at d : ℕ) (out : List ℕ) → Spelt b n (size - at) rest (drop at out) → 0 < at → at ≤ size → at ≤ length out
    → d ≡ hex_digit_ascii (rest % b) → Spelt b n (size - (at - 1)) (rest / b) (drop (at - 1) (set out (at - 1) d))
put_next b n size rest at d out h some within long e =
    let there : at ≡ at - 1 + 1 = omega arith in
    let more : size - at + 1 ≡ size - (at - 1) = omega arith in
    subst (λ (k : ℕ). Spelt b n k (rest / b) (drop (at - 1) (set out (at - 1) d))) more
    (put b n (size - at) rest (at - 1) d out (subst (λ (i : ℕ). Spelt b n (size - at) rest (drop i out)) there h) (omega arith) e)

-- something is left of n behind k digits, so they are too few
pub some_left : (b n k rest : ℕ) (written : List ℕ) → 0 < b → Spelt b n k rest written → 0 < rest → b ^ k ≤ n
some_left b n k rest written h s l =
    let m : 0 < n / b ^ k = subst (λ (r : ℕ). 0 < r) s.left l in
    let p : 1 * b ^ k ≤ n = (le-div_iff_mul-le (one-le-pow k b h)).0 m in
    omega arith

-- a number of 64 bits has 20 decimal digits at most
pub few_decimals : (n k rest : ℕ) (written : List ℕ) → n < 2 ^ 64 → Spelt 10 n k rest written → 0 < rest → k < 20
few_decimals n k rest written h s l =
    let m : 10 ^ k ≤ n = some_left 10 n k rest written (omega arith) s l in
    lt_of_not-le (λ (over : 20 ≤ k). let p : 10 ^ 20 ≤ 10 ^ k = pow-le-pow_right (omega arith) over in omega arith)

-- nothing is left of n, and something was left of it behind one digit less
pub all_decimals : (n k rest : ℕ) (written : List ℕ) → n < 2 ^ 64 → Spelt 10 n k rest written → rest ≤ 0 → 1 ≤ k → (1 < k → 10 ^ (k - 1) ≤ n)
    → written ≡ decimal_of n
all_decimals n k rest written h s l one least =
    let m : n / 10 ^ k < 1 = subst (λ (r : ℕ). r < 1) s.left (omega arith) in
    let p : n < 1 * 10 ^ k = (div-lt_iff_lt-mul (one-le-pow k 10 (omega arith))).0 m in
    sym (ap (λ (m : ℕ). last_digits 10 m n) (sym (zero-add k)) ∙ s.all 0) ∙ decimal-is n k h (one, omega arith, least)

pub all_bits : (n at rest : ℕ) (out : List ℕ) → at ≡ 0 → Spelt 16 n (16 - at) rest (drop at out) → out ≡ bits_of n
unfolding bits_of
all_bits n at rest out none h =
    let s = subst (λ (i : ℕ). Spelt 16 n (16 - i) rest (drop i out)) none h in
    sym (s.all 0)
