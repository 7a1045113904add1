-- The rows of a table in a list that is lent, three words each: page, cell and row number. The walk decides first, and row 19 of
-- docs/READINGS.md is last.
use Rattle.std.specs.Prelude.{ℕ, ◌*◌, ◌^◌, List, [], ◌∷◌, ◌++◌, ltb, ℤ, drop, Err, Ok, Result}
use Rattle.laws.specs.Pick.{pick}
use Rattle.fields.specs.Fields.{twos}
use Rattle.answers.specs.declared.Reason.TheVariants as re
use Rattle.answers.specs.declared.Refusal.TheVariants.{OnPage}
use Rattle.answers.specs.declared.Refusal.{Refusal}
use Rattle.trace.specs.Walk.{Row, rows_of}
use Rattle.trace.specs.Tree.{table_of}
use Rattle.walk.specs.Counted.{count_of}
use Rattle.trust.specs.declared.Trust.TheVariants as tr
use Rattle.trust.specs.Trust.{trust_of}
use Rattle.trust.specs.declared.Trust.{Trust}

-- a row in words of 64 bits
abbrev pub words_of : ℕ → ℕ → ℤ → List ℤ
words_of page cell number = twos (2 ^ 64) page ∷ twos (2 ^ 64) cell ∷ number ∷ []

abbrev pub words : List Row → List ℤ
words [] = []
words (r ∷ rows) = words_of r.page r.cell r.number ++ words rows

abbrev pub too_short : ℕ → Result ℕ Refusal
too_short root = Err (OnPage root re.TableTooShort)

-- so many rows, where there are so many places
abbrev pub within : ℕ → ℕ → Result ℕ Refusal → Result ℕ Refusal
within places root (Err r) = Err r
within places root (Ok n) = pick (ltb places n) (too_short root) (Ok n)

abbrev pub list_of : ℕ → ℕ → List ℕ → Result ℕ Refusal
list_of places root db = within places root (count_of root db)

-- the same of a table that both may trust: a list that is too short is the walk's refusal, and comes before a row's
abbrev pub trusted_by : ℕ → ℕ → Result Trust Refusal → Result ℕ Refusal
trusted_by places root (Err r) = Err r
trusted_by places root (Ok (tr.Parts n r)) = pick (ltb places n) (too_short root) (Err r)
trusted_by places root (Ok (tr.Agrees n)) = within places root (Ok n)

abbrev pub trusted_of : ℕ → ℕ → List ℕ → Result ℕ Refusal
trusted_of places root db = trusted_by places root (trust_of root db)

-- the list at the end: the rows, and behind them what it held; as it was on a refusal
abbrev pub filled_with : Result ℕ Refusal → List Row → List ℤ → List ℤ
filled_with (Err r) rows list = list
filled_with (Ok n) rows list = words rows ++ drop (3 * n) list

abbrev pub list_in : Result ℕ Refusal → ℕ → List ℕ → List ℤ → List ℤ
list_in answer root db list = filled_with answer (rows_of (table_of root db)) list
