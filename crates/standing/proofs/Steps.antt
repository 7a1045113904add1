-- The rows that stand in a table, step by step.
use Prim.Native.Nat.{ℕ, suc, ◌+◌, ◌-◌, ◌≤◌, ◌<◌}
use mathlib.Core.Path.{◌≡◌, ap, ◌∙◌}
use mathlib.Core.List.{List, [], ◌∷◌, ◌++◌}
use native.Mathlib.Omega.{arith}
use Rattle.std.specs.Prelude.{Result}
use Rattle.answers.specs.declared.Refusal.{Refusal}
use Rattle.page.specs.declared.Open.{Open}
use Rattle.cells.specs.Numbered.{numbers_in}
use Rattle.trace.specs.Walk.{Row}
use Rattle.trace.specs.Table.{table_at, last_child}
use Rattle.trace.specs.declared.Table.{Table}
use Rattle.standing.specs.Rows.{child_by, row_at, leaf_rows, child_rows, page_rows, all_rows}

module _ (o : Open) (db : List ℕ) (cells i : ℕ) where
  pub leaf-next : i < cells → leaf_rows o db (cells - i) i ≡ row_at o db i ∷ leaf_rows o db (cells - (i + 1)) (i + 1)
  unfolding leaf_rows
  leaf-next h = let left : cells - i ≡ suc (cells - (i + 1)) = omega arith in rw (left, leaf_rows)

  pub leaf-none : cells ≤ i → leaf_rows o db (cells - i) i ≡ []
  unfolding leaf_rows
  leaf-none h = let none : cells - i ≡ 0 = omega arith in rw (none, leaf_rows)

  pub child-next : (under : ℕ → List Row) → i < cells → child_rows under o db (cells - i) i ≡ under (child_by (numbers_in o i db)) ++ child_rows under o db (cells - (i + 1)) (i + 1)
  unfolding child_rows
  child-next under h = let left : cells - i ≡ suc (cells - (i + 1)) = omega arith in rw (left, child_rows)

  pub child-last : (under : ℕ → List Row) → cells ≤ i → child_rows under o db (cells - i) i ≡ under (last_child o db)
  unfolding child_rows
  child-last under h = let none : cells - i ≡ 0 = omega arith in rw (none, child_rows)

pub rows_none : (depth : ℕ) (db : List ℕ) (n : ℕ) → depth ≡ 0 → all_rows depth db n ≡ []
unfolding all_rows
rows_none depth db n e = rw (e, all_rows)

pub rows-page : (depth : ℕ) (db : List ℕ) (n : ℕ) → (depth ≡ 0 → ⊥) → {t : Result Table Refusal} → table_at n db ≡ t
    → all_rows depth db n ≡ page_rows (all_rows (depth - 1) db) db t
unfolding all_rows
rows-page depth db n d e =
    let deep : depth ≡ suc (depth - 1) = omega arith in
    ap (λ (k : ℕ). all_rows k db n) deep ∙ rw (all_rows, e)
