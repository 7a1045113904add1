-- The values of a row in a lent table: along a cursor, as many as there are places, each in five words.
use Rattle.std.specs.Prelude.{ℕ, zero, suc, ◌+◌, List, [], ◌++◌, ℤ, length, drop, None, Some}
use Rattle.columns.specs.declared.Cursor.{Cursor}
use Rattle.columns.specs.Columns.{step_of}
use Rattle.turns.specs.declared.types.Filled.{Filled}
use Rattle.turns.specs.Rows.{filled_of}
use Rattle.turns.specs.Words.{words_of, value_at}

-- how many values there are, the cursor behind them, and their words
pub data Run : Type 0 where
  run : ℕ → Cursor → List ℤ → Run

-- n values with their words, before a run
abbrev pub before : ℕ → List ℤ → Run → Run
before n words (run m c rest) = run (n + m) c (words ++ rest)

-- along a cursor, as many as there are places
unfoldable pub run_from : ℕ → Cursor → List ℕ → Run
run_from zero c db = run 0 c []
run_from (suc places) c db =
    elim (step_of c db) [
      | Some x ↦ before 1 (words_of (value_at c.reading x.serial x.at db)) (run_from places x.next db)
      | None ↦ run 0 c []
    ]

abbrev pub filled_by : Run → Filled
filled_by (run n c words) = filled_of n c

-- a table over which the words of a run are written
abbrev pub over : Run → List ℤ → List ℤ
over (run n c words) table = words ++ drop (length words) table
