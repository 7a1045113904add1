-- What callers cite of the check: one cell after the other, and that each cell of a sound page is located.
use Prim.Native.Nat.{ℕ, zero, suc, ◌+◌, ◌-◌, ◌≤◌, ◌<◌}
use mathlib.Core.Path.{◌≡◌, refl}
use mathlib.Core.List.{List}
use native.Mathlib.Omega.{arith}
use native.Mathlib.Nat.{add-zero}
use Rattle.laws.proofs.Never.{never}
use Rattle.answers.specs.declared.Refusal.{Refusal}
use Rattle.page.specs.declared.Open.{Open}
use Rattle.cells.specs.Located.{Located, located_in}
use Rattle.sound.specs.Cells.{cells_from}
use Rattle.std.specs.Prelude.{Err, Ok, Result, ⊤, ⊤}

-- of n cells, i are passed
module _ (o : Open) (db : List ℕ) (n i : ℕ) where
  pub cells-sound : n ≤ i → cells_from o db i (n - i) ≡ Ok tt
  unfolding cells_from
  cells-sound h = let e : n - i ≡ 0 = omega arith in rw e

  module _ (h : i < n) where
    one_more : n - i ≡ suc (n - (i + 1))
    one_more = omega arith

    pub cells-next : {l : Located} → located_in o i db ≡ Ok l → cells_from o db i (n - i) ≡ cells_from o db (i + 1) (n - (i + 1))
    unfolding cells_from
    cells-next e = rw one_more (simp (cells_from, e))

    pub cells-stop : {refusal : Refusal} → located_in o i db ≡ Err refusal → cells_from o db i (n - i) ≡ Err refusal
    unfolding cells_from
    cells-stop e = rw one_more (simp (cells_from, e))

-- where a run of cells is sound, each of them is located
pub record Shown (o : Open) (i : ℕ) (db : List ℕ) : Type 0 where
  pub l : Located
  pub is : located_in o i db ≡ Ok l

pub each : (o : Open) (db : List ℕ) (from left : ℕ) → cells_from o db from left ≡ Ok tt → (k : ℕ) → k < left → Shown o (from + k) db
unfolding cells_from
each o db from zero s k h = absurd (omega arith)
each o db from (suc left) s k h = go (located_in o from db) refl (λ d j l. each o db (from + 1) left d j l) s k h
  where
    go : (x : Result Located Refusal) → located_in o from db ≡ x
        → (cells_from o db (from + 1) left ≡ Ok tt → (j : ℕ) → j < left → Shown o (from + 1 + j) db)
        → ◌≡◌ {A = Result ⊤ Refusal} (elim x [ Ok l ↦ cells_from o db (from + 1) left | Err refusal ↦ Err refusal ]) (Ok tt)
        → (k : ℕ) → k < suc left → Shown o (from + k) db
    go (Err refusal) q ih d k h = never cc
    go (Ok l) q ih d zero h = rw (add-zero from) (record { l = l; is = q })
    go (Ok l) q ih d (suc k) h = let m : from + suc k ≡ from + 1 + k = omega arith in rw m (ih d k (omega arith))
