-- The cells of an opened page, all accepted, or the first that is not.
use Rattle.std.specs.Prelude.{ℕ, zero, suc, ◌+◌, List, Err, Ok, Result, ⊤}
use Rattle.page.specs.declared.Open.{Open}
use Rattle.cells.specs.Located.{located_in}
use Rattle.answers.specs.declared.Refusal.{Refusal}

-- the cells from cell i on, of which there are `left`
unfoldable pub cells_from : Open → List ℕ → ℕ → ℕ → Result ⊤ Refusal
cells_from o db i zero = Ok tt
cells_from o db i (suc left) =
    elim (located_in o i db) [ Ok l ↦ cells_from o db (i + 1) left | Err refusal ↦ Err refusal ]
