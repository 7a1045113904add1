-- Column k by going along: k steps, and the step there. That it is the column which `slot_of` names is proved
-- (proofs/Along.antt), so a cursor shows what single calls show.
use Rattle.std.specs.Prelude.{ℕ, zero, suc, List, None, Option, Some}
use Rattle.columns.specs.declared.Cursor.{Cursor}
use Rattle.columns.specs.Columns.{step_of}
use Rattle.columns.specs.Columns.{slot_at}
use Rattle.columns.specs.declared.Slot.{Slot}
use Rattle.columns.specs.declared.Step.{Step}

abbrev pub onward : Option Step → (Cursor → Option Step) → Option Step
onward None rest = None
onward (Some step) rest = rest step.next

unfoldable pub along : ℕ → Cursor → List ℕ → Option Step
along zero c db = step_of c db
along (suc k) c db = onward (step_of c db) (λ next. along k next db)

abbrev pub slot_by : Option Step → Option Slot
slot_by None = None
slot_by (Some step) = slot_at step.serial step.at
