-- A whole table that both may trust: the walk accepts it, and the guarded reading refuses none of its rows.
use Rattle.std.specs.Prelude.{ℕ, List, [], ◌∷◌, Err, None, Ok, Option, Result, Some}
use Rattle.answers.specs.declared.Refusal.{Refusal}
use Rattle.cells.specs.Located.{Located}
use Rattle.guarded.specs.Guarded.{located_of}
use Rattle.trace.specs.Walk.{Row, rows_of}
use Rattle.trace.specs.Tree.{table_of}
use Rattle.walk.specs.Counted.{count_of}
use Rattle.trust.specs.declared.Trust.TheVariants.{Parts, Agrees}
use Rattle.trust.specs.declared.Trust.{Trust}

-- what the guarded reading says of a row, and else what comes behind it
abbrev pub first_by : Result Located Refusal → Option Refusal → Option Refusal
first_by (Err r) behind = Some r
first_by (Ok l) behind = behind

-- the first of the rows that the guarded reading refuses
abbrev pub first_refused : List ℕ → List Row → Option Refusal
first_refused db [] = None
first_refused db (r ∷ rows) = first_by (located_of r.page r.cell db) (first_refused db rows)

abbrev pub trust_by : Result ℕ Refusal → Option Refusal → Result Trust Refusal
trust_by (Err r) first = Err r
trust_by (Ok n) None = Ok (Agrees n)
trust_by (Ok n) (Some r) = Ok (Parts n r)

-- the table whose root that page is
unfoldable pub trust_of : ℕ → List ℕ → Result Trust Refusal
trust_of root db = trust_by (count_of root db) (first_refused db (rows_of (table_of root db)))

-- how many rows it has, where both may trust all of them
abbrev pub counted_by : Result Trust Refusal → Result ℕ Refusal
counted_by (Err r) = Err r
counted_by (Ok (Parts n r)) = Err r
counted_by (Ok (Agrees n)) = Ok n

abbrev pub trusted_count : ℕ → List ℕ → Result ℕ Refusal
trusted_count root db = counted_by (trust_of root db)
