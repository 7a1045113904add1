-- The value of each address, as long as they name the row: the cursor stands before the column, and the list goes on.
use Prim.Native.Nat.{ℕ, ◌-◌}
use mathlib.Core.List.{List}
use Rattle.reading.specs.declared.Reading.{Reading}
use Rattle.columns.specs.declared.Cursor.{Cursor}
use Rattle.columns.specs.Columns.{slot_of}
use Rattle.turns.specs.declared.types.Shown.{Shown}
use Rattle.chosen.specs.Chosen.{slot_shown}
use Rattle.addresses.specs.Screen.{Address}
use Rattle.addresses.specs.Turns.{Room, CellAnswers, named_cell, named_page}
use Rattle.addresses.proofs.Lists.{Going, Same}
use Rattle.screen.proofs.Columns.{Before}
use Rattle.screen.proofs.rows.in_row.Given as goal

-- what the columns of the row are answered
abbrev pub Columns : List ℕ → Reading → Cursor → ℕ → List ℕ → (Address → Shown) → Type 0
Columns db reading first at addresses =
    CellAnswers (named_page at addresses) (named_cell at addresses) (λ k. slot_shown reading (named_page at addresses) db (slot_of k first db))

abbrev pub invariant-loop-column : goal.invariant-loop-column
invariant-loop-column l =
    Going (Columns l.db l.reading l.first l.at l.addresses) l.count l.addresses l.at l.i l.initial.answers l.answers
    × Same l.addresses l.count l.i l.at
    × Before l.first l.columns l.db l.here l.column
    × Room l.count l.addresses l.initial.answers

abbrev pub decreases-loop-column : goal.decreases-loop-column
decreases-loop-column l = l.count - l.i
