-- The cursor behind some columns: where there are fewer, before the first that is not there.
use Rattle.std.specs.Prelude.{ℕ, zero, suc, List, None, Option, Some}
use Rattle.columns.specs.declared.Cursor.{Cursor}
use Rattle.columns.specs.Columns.{step_of}
use Rattle.columns.specs.declared.Step.{Step}

abbrev pub past : Option Step → Cursor → (Cursor → Cursor) → Cursor
past None c rest = c
past (Some step) c rest = rest step.next

unfoldable pub past_of : ℕ → Cursor → List ℕ → Cursor
past_of zero c db = c
past_of (suc k) c db = past (step_of c db) c (λ next. past_of k next db)
