-- A table that both may trust, of every database and root page. `rows_of (table_of root db)` are the rows that the walk lists.
use Rattle.std.specs.Prelude.{ℕ, ◌-◌, ◌≡◌, List, [], ◌∷◌, ◌⊎◌, Err, Ok, Result}
use Rattle.answers.specs.declared.Refusal.{Refusal}
use Rattle.trace.specs.Walk.{Row, rows_of}
use Rattle.trace.specs.Tree.{table_of}
use Rattle.walk.specs.Counted.{count_of}
use Rattle.agreement.specs.Shows as shows
use Rattle.agreement.specs.Shows.{Meaning, row, none, old_shows, file_shows, guarded_shows}
use Rattle.trust.specs.Trust.{trusted_count}
use Rattle.trees.specs.Trees.{Each}
use Rattle.listing.specs.Listed.{list_of, trusted_of}

-- THEOREM: if the listing is given, every listed row is one and the same in all three readings, under the number that is listed

pub record Same (db : List ℕ) (r : Row) : Type 0 where
  pub values : List Meaning
  pub guarded : guarded_shows r.page r.cell db ≡ row r.number values
  pub file : file_shows r.page r.cell db ≡ row r.number values
  pub old : old_shows (r.page - 1) r.cell db ≡ row r.number values

abbrev pub TrustedAgrees : Type 0
TrustedAgrees = (places root : ℕ) (db : List ℕ) (n : ℕ) → trusted_of places root db ≡ Ok n → Each (Same db) (rows_of (table_of root db))

-- THEOREM: it is given exactly when the walk's listing is and the guarded reading refuses none of the rows; so it is with the count

abbrev pub IsRow : shows.Row → Type 0
IsRow (none refusal) = ⊥
IsRow (row number values) = Unit

abbrev pub NoneRefused : List ℕ → List Row → Type 0
NoneRefused db rows = Each (λ r. IsRow (guarded_shows r.page r.cell db)) rows

abbrev pub Exactly : List ℕ → List Row → Result ℕ Refusal → Result ℕ Refusal → Type 0
Exactly db rows walked trusted = (n : ℕ)
    → (trusted ≡ Ok n → (walked ≡ Ok n) × NoneRefused db rows)
    × (walked ≡ Ok n → NoneRefused db rows → trusted ≡ Ok n)

abbrev pub GivenExactly : Type 0
GivenExactly = (places root : ℕ) (db : List ℕ)
    → Exactly db (rows_of (table_of root db)) (list_of places root db) (trusted_of places root db)
    × Exactly db (rows_of (table_of root db)) (count_of root db) (trusted_count root db)

-- THEOREM: otherwise the walk's refusal is told, or else the guarded refusal of the first row that it refuses

abbrev pub FirstRefused : List ℕ → Refusal → List Row → Type 0
FirstRefused db refusal [] = ⊥
FirstRefused db refusal (r ∷ rows) =
    (guarded_shows r.page r.cell db ≡ none refusal)
    ⊎ (IsRow (guarded_shows r.page r.cell db) × FirstRefused db refusal rows)

abbrev pub IsShown : Result ℕ Refusal → Type 0
IsShown (Ok n) = Unit
IsShown (Err refusal) = ⊥

abbrev pub Told : List ℕ → List Row → Result ℕ Refusal → Result ℕ Refusal → Type 0
Told db rows walked trusted = (refusal : Refusal) → trusted ≡ Err refusal
    → (walked ≡ Err refusal) ⊎ (IsShown walked × FirstRefused db refusal rows)

abbrev pub RefusedFirst : Type 0
RefusedFirst = (places root : ℕ) (db : List ℕ)
    → Told db (rows_of (table_of root db)) (list_of places root db) (trusted_of places root db)
    × Told db (rows_of (table_of root db)) (count_of root db) (trusted_count root db)
