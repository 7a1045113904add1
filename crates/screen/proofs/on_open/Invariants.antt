-- The cells of a page, one behind the other: each is found once for all addresses that name it in a row.
use Prim.Native.Nat.{ℕ, ◌-◌}
use mathlib.Core.Path.{◌≡◌}
use mathlib.Core.Bool.{Bool}
use mathlib.Core.List.{List}
use Rattle.reading.specs.declared.Reading.{Reading}
use Rattle.page.specs.declared.Open.{Open}
use Rattle.row.specs.Found.{found_by}
use Rattle.turns.specs.declared.types.Shown.{Shown}
use Rattle.chosen.specs.Chosen.{found_shown, located_in}
use Rattle.addresses.specs.Screen.{Address}
use Rattle.addresses.specs.Turns.{Room, PageAnswers, named_page}
use Rattle.addresses.proofs.Lists.{Going}
use Rattle.screen.proofs.on_open.Given as goal

-- what the cells of the page are answered
abbrev pub Cells : List ℕ → Reading → Bool → Open → ℕ → List ℕ → (Address → Shown) → Type 0
Cells db reading guarded opened at addresses =
    PageAnswers (named_page at addresses) (λ i. found_shown reading (named_page at addresses) db (found_by (located_in guarded opened i db)))

abbrev pub invariant-loop-i : goal.invariant-loop-i
invariant-loop-i l =
    Going (Cells l.db l.reading l.guarded l.opened l.at l.addresses) l.count l.addresses l.at l.i l.initial.answers l.answers
    × (l.page ≡ named_page l.at l.addresses)
    × (named_page l.i l.addresses ≡ named_page l.at l.addresses)
    × Room l.count l.addresses l.initial.answers

abbrev pub decreases-loop-i : goal.decreases-loop-i
decreases-loop-i l = l.count - l.i
