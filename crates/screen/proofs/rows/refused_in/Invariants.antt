-- The same answer in each place, as long as the addresses name the cell.
use Prim.Native.Nat.{ℕ, ◌-◌}
use mathlib.Core.List.{List}
use lib.IntN.{ℤ}
use Rattle.turns.specs.declared.types.Shown.{Shown}
use Rattle.addresses.specs.Turns.{Room, CellAnswers, named_cell, named_page}
use Rattle.addresses.proofs.Lists.{Going, Same}
use Rattle.screen.proofs.rows.refused_in.Given as goal

-- the addresses so far
abbrev pub Here : ℕ → ℕ → List ℕ → List ℤ → Shown → List ℤ → ℕ → Type 0
Here at count addresses lent shown answers i =
    Going (CellAnswers (named_page at addresses) (named_cell at addresses) (λ k. shown)) count addresses at i lent answers
    × Same addresses count i at
    × Room count addresses lent

abbrev pub invariant-loop-shown : goal.invariant-loop-shown
invariant-loop-shown l = Here l.at l.count l.addresses l.initial.answers l.shown l.answers l.i

abbrev pub decreases-loop-shown : goal.decreases-loop-shown
decreases-loop-shown l = l.count - l.i
