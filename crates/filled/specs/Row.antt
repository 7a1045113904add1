-- A row with its values in a lent table, by what is found of it.
use Rattle.std.specs.Prelude.{ℕ, List, ℤ, Err, Ok, Result}
use Rattle.turns.specs.declared.types.Row.{Row}
use Rattle.turns.specs.Rows.{no_row, row_of}
use Rattle.run.specs.Run.{run_from, filled_by, over}
use Rattle.answers.specs.declared.Refusal.{Refusal}
use Rattle.usual.specs.declared.Row as found

-- what is answered where a table of so many places is lent
abbrev pub row_by : ℕ → List ℕ → Result found.Row Refusal → Row
row_by places db (Err refusal) = no_row refusal
row_by places db (Ok row) = row_of row.number row.columns (filled_by (run_from places row.cursor db))

-- and what the table then holds
abbrev pub row_over : ℕ → List ℕ → Result found.Row Refusal → List ℤ → List ℤ
row_over places db (Err refusal) table = table
row_over places db (Ok row) table = over (run_from places row.cursor db) table
