-- How many rows a table has, or why it is refused.
use Rattle.std.specs.Prelude.{ℕ, List, Err, Ok, Result}
use Rattle.answers.specs.declared.Refusal.{Refusal}
use Rattle.trace.specs.Tree.{table_of}
use Rattle.trace.specs.Counted.{counted}
use Rattle.trace.specs.declared.Walked.{Walked}

abbrev pub count_by : Result Walked Refusal → Result ℕ Refusal
count_by (Err r) = Err r
count_by (Ok w) = Ok w.count

unfoldable pub count_of : ℕ → List ℕ → Result ℕ Refusal
count_of root db = count_by (counted 0 (table_of root db))
