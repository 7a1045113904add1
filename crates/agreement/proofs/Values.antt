-- What a value says in the two readings: the same, but for the types 9, 12 and 13, where it never does.
--
-- This holds the readings' two tables of values against each other, type by type, and so unfolds both: laws of `values` for that
-- would be a line for each type in each reading, which is the tables again.
use Prim.Native.Nat.{ℕ, zero, suc, ◌-◌, ◌/◌, ◌%◌, ◌≤◌, ◌<◌}
use mathlib.Core.Path.{◌≡◌, refl}
use mathlib.Core.List.{List}
use mathlib.Core.Bool.{Bool, true, false}
use native.Mathlib.Omega.{arith}
use lib.Dec.{ltb}
use borrow.Author.Tests.{le-ltb, ltb-true, ltb-false, ne_eqb, eqb-false}
use Rattle.laws.specs.Pick.{pick}
use Rattle.laws.proofs.Never.{never}
use Rattle.serial.specs.Serial.{is_blob, length_of}
use Rattle.values.specs.Old as old
use Rattle.values.specs.File as file
use Rattle.values.specs.declared.old.Value.TheVariants as ol
use Rattle.values.specs.declared.file.Value.TheVariants as fi
use Rattle.values.proofs.Laws.{old-long, file-long}
use Rattle.marks.proofs.Differ.{Otherwise, nine, twelve, thirteen}
use Rattle.agreement.specs.Shows.{old_means, file_means}

-- a thing of each number below n, told one by one
abbrev Each : (ℕ → Type 0) → ℕ → Type 0
Each P zero = Unit {0}
Each P (suc n) = P 0 × Each (λ k. P (suc k)) n

below : (P : ℕ → Type 0) (n : ℕ) → Each P n → (k : ℕ) → k < n → P k
below P zero e k l = absurd (omega arith)
below P (suc n) e zero l = e.0
below P (suc n) e (suc k) l = below (λ j. P (suc j)) n e.1 k (omega arith)

-- from 14 on a text or a blob has bytes
some_bytes : (t : ℕ) → 14 ≤ t → length_of t ≡ 0 → ⊥
some_bytes t l e = go (is_blob t) refl e
  where
    go : (b : Bool) → is_blob t ≡ b → pick b ((t - 12) / 2) ((t - 13) / 2) ≡ 0 → ⊥
    go true i d = omega arith
    go false i d = let odd = eqb-false (t % 2) 0 i in omega arith

module _ (db : List ℕ) (at : ℕ) (s : List ℕ) where
  long_same : (t : ℕ) → 14 ≤ t → old_means db (old.long_of t at) ≡ file_means db (file.long_of t at)
  long_same t l = rw (ne_eqb (length_of t) 0 (some_bytes t l), le-ltb t 12 (omega arith)) (go (is_blob t))
    where
      go : (b : Bool) → old_means db (pick b (ol.Blob at (length_of t)) (ol.Text at (length_of t)))
          ≡ file_means db (pick b (fi.Blob at (length_of t)) (fi.Text at (length_of t)))
      go true = refl
      go false = refl

  abbrev Same : ℕ → Type 0
  Same t = (Otherwise t → ⊥) → old_means db (old.value_of t at s) ≡ file_means db (file.value_of t at s)

  short-same : Each Same 14
  unfolding old.value_of file.value_of
  short-same = (
    λ n. refl,
    (
      λ n. refl,
      (
        λ n. refl,
        (
          λ n. refl,
          (
            λ n. refl,
            (
              λ n. refl,
              (
                λ n. refl,
                (
                  λ n. refl,
                  (
                    λ n. refl,
                    (λ n. absurd (n nine), (λ n. refl, (λ n. refl, (λ n. absurd (n twelve), (λ n. absurd (n thirteen), tt))))),
                  ),
                ),
              ),
            ),
          ),
        ),
      ),
    ),
  )

  pub value_same : (t : ℕ) → Same t
  value_same t n = go (ltb t 14) refl
    where
      go : (b : Bool) → ltb t 14 ≡ b → old_means db (old.value_of t at s) ≡ file_means db (file.value_of t at s)
      go true i = below Same 14 short-same t (ltb-true t 14 i) n
      go false i =
          let l = ltb-false t 14 i in
          rw (old-long t at s (omega arith), file-long t at s (omega arith)) (long_same t l)

-- wherever the two values stand
pub value-differs : (db s x : List ℕ) (at on t : ℕ) → Otherwise t → old_means db (old.value_of t at s) ≡ file_means db (file.value_of t on x) → ⊥
unfolding old.value_of file.value_of
value-differs db s x at on t nine e = never cc
value-differs db s x at on t twelve e = never cc
value-differs db s x at on t thirteen e = never cc
