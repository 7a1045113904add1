-- A list into which rows are stored: what it holds, with the rows that are still to come, is what it is to hold.
use Prim.Native.Nat.{ℕ, ◌+◌, ◌*◌, ◌≤◌}
use mathlib.Core.Path.{◌≡◌, refl, sym, ap, ◌∙◌}
use mathlib.Core.List.{List, [], ◌∷◌, ◌++◌}
use native.Mathlib.Nat.{add_assoc}
use native.Mathlib.Omega.{arith}
use lib.IntN.{ℤ}
use lib.ListN.{length, length-append, drop}
use lib.Seq.{sets, length-sets, sets-eq}
use Rattle.laws.proofs.Stores.{sets-on}
use Rattle.trace.specs.Walk.{Row}
use Rattle.listing.specs.Listed.{words_of, words}

words-on : (some rest : List Row) → words (some ++ rest) ≡ words some ++ words rest
words-on [] rest = refl
words-on (r ∷ some) rest = ap (λ (l : List ℤ). words_of r.page r.cell r.number ++ l) (words-on some rest)

-- THE TURNS OF A LOOP that stores `all` into `lent` from `from` on

pub record Held (lent : List ℤ) (from : ℕ) (all : List Row) (list : List ℤ) (next : ℕ) (rest : List Row) : Type 0 where
  pub long : length list ≡ length lent
  pub place : next + length (words rest) ≡ from + length (words all)
  pub is : sets list next (words rest) ≡ sets lent from (words all)

pub held : (lent : List ℤ) (from : ℕ) (all : List Row) → Held lent from all lent from all
held lent from all = record { long = refl; place = refl; is = refl }

module _ {lent : List ℤ} {from : ℕ} {all : List Row} {list : List ℤ} {next : ℕ} where
  pub held_on : (some rest : List Row) {list' : List ℤ} {next' : ℕ} → Held lent from all list next (some ++ rest)
      → next' ≡ next + length (words some) → list' ≡ sets list next (words some) → Held lent from all list' next' rest
  held_on some rest h n l =
      let w = words-on some rest in
      let m = ap length w ∙ length-append (words some) (words rest) in
      rw (n, l) (record {
        long = length-sets list next (words some) ∙ h.long;
        place = add_assoc next (length (words some)) (length (words rest)) ∙ ap (λ (k : ℕ). next + k) (sym m) ∙ h.place;
        is = sym (sets-on (words some) (words rest) list next) ∙ ap (sets list next) (sym w) ∙ h.is;
      })

  pub held-last : {rest : List Row} {list' : List ℤ} {r : ℕ} → Held lent from all list next rest
      → r ≡ next + length (words rest) → list' ≡ sets list next (words rest) → (r ≡ from + length (words all)) × (list' ≡ sets lent from (words all))
  held-last h n l = (n ∙ h.place, l ∙ h.is)

  -- there is room for what comes
  pub held-room : (some rest : List Row) → Held lent from all list next (some ++ rest) → from + length (words all) ≤ length lent → next + length (words some) ≤ length list
  held-room some rest h r = let m = ap length (words-on some rest) ∙ length-append (words some) (words rest) in omega (arith, h.long, h.place)

  pub held-last-room : {rest : List Row} → Held lent from all list next rest → from + length (words all) ≤ length lent → next + length (words rest) ≤ length list
  held-last-room h r = omega (arith, h.long, h.place)

-- three words a row
pub words-length : (rows : List Row) → length (words rows) ≡ 3 * length rows
words-length [] = refl
words-length (r ∷ rows) = let e = words-length rows in omega arith

-- a list whose first words are stored
pub stored : (ws list : List ℤ) (n : ℕ) → length ws ≡ n → n ≤ length list → sets list 0 ws ≡ ws ++ drop n list
stored ws list n e h =
    let z : 0 + length ws ≡ n = omega arith in
    sets-eq ws list 0 (omega arith) ∙ rw z
