-- What the guarded reading locates with a buffer lent: a cell that it locates with none.
use Prim.Native.Nat.{ℕ}
use mathlib.Core.Path.{◌≡◌, refl, ap}
use mathlib.Core.List.{List}
use mathlib.Core.Bool.{Bool, true, false}
use Rattle.laws.specs.Pick.{pick}
use Rattle.laws.proofs.Never.{never}
use Rattle.answers.specs.declared.Refusal.{Refusal}
use Rattle.answers.specs.Answer.{◌>>=◌}
use Rattle.page.specs.declared.Open.{Open}
use Rattle.cells.specs.Located.{Located}
use Rattle.row.specs.Found.{found_by}
use Rattle.row.specs.Column.{column_by, column_from}
use Rattle.row_values.specs.File.{shown_by}
use Rattle.row.proofs.Placed.{Placed, placed-in, column-along}
use Rattle.guarded.specs.Guarded as guarded
use Rattle.guarded.proofs.Guard.{guarded-in}
use Rattle.spills.specs.declared.Source.TheVariants.{Database}
use Rattle.spilled.specs.Lent.{spilled_in, instead}
use Rattle.spills.specs.Spills.{spills}
use Rattle.spilled.specs.Values.{from}
use Rattle.marked.specs.Marked.{marked_by, marked_in, lent_in, lent_of, value_of}
use Rattle.std.specs.Prelude.{Err, Ok, Result}

-- in 18's place there is a mark
pub marked-instead : (o : Open) (i room : ℕ) (db : List ℕ)
    → lent_in o i room db ≡ instead (λ l. l) (Err (marked_by i (spilled_in o i room db))) (guarded.located_in o i db)
unfolding lent_in marked_in
marked-instead o i room db = refl

module _ (number i room : ℕ) (db : List ℕ) where
  pub marked-open : {o : Open} → guarded.open_of number db ≡ Ok o → lent_of number i room db ≡ lent_in o i room db
  unfolding lent_of
  marked-open e = rw e

  pub marked-unopened : {refusal : Refusal} → guarded.open_of number db ≡ Err refusal → lent_of number i room db ≡ Err refusal
  unfolding lent_of
  marked-unopened e = rw e

module _ (i room : ℕ) (db : List ℕ) {l : Located} where
  pub lent-guarded : (o : Open) → lent_in o i room db ≡ Ok l → guarded.located_in o i db ≡ Ok l
  unfolding lent_in
  lent-guarded o e = go (guarded.located_in o i db) e
    where
      by : (t : Bool) (refusal : Refusal) → pick t (Err (marked_in o i room db)) (Err refusal) ≡ Ok l → Err refusal ≡ Ok l
      by true refusal f = never cc
      by false refusal f = never cc

      go : (x : Result Located Refusal) → instead (λ k. k) (Err (marked_in o i room db)) x ≡ Ok l → x ≡ Ok l
      go (Ok k) d = d
      go (Err refusal) d = by (spills refusal) refusal d

  pub lent_placed : (number : ℕ) → lent_of number i room db ≡ Ok l → Placed l db
  unfolding lent_of
  lent_placed number e = go (guarded.open_of number db) e
    where
      go : (x : Result Open Refusal) → (x >>= (λ o. lent_in o i room db)) ≡ Ok l → Placed l db
      go (Err refusal) d = never cc
      go (Ok o) d = placed-in o i db (guarded-in o i db (lent-guarded o d)).located

-- along the cursor of what is located is the column of the definition
pub lent-column : (k number i room : ℕ) (db : List ℕ) → column_from k db (found_by (lent_of number i room db)) ≡ column_by k (lent_of number i room db)
lent-column k number i room db = go (lent_of number i room db) refl
  where
    go : (x : Result Located Refusal) → lent_of number i room db ≡ x → column_from k db (found_by x) ≡ column_by k x
    go (Err refusal) e = refl
    go (Ok l) e = column-along k l db (lent_placed i room db number e)

-- the call on a column, by the cell that is located
pub marked-value : (number i k room : ℕ) (db : List ℕ) {x : Result Located Refusal} → lent_of number i room db ≡ x
    → value_of number i k room db ≡ from Database (shown_by db (column_by k x))
unfolding value_of
marked-value number i k room db e = ap (λ (y : Result Located Refusal). from Database (shown_by db (column_by k y))) e
