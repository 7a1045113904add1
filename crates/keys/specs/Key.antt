-- The row number or key of one cell: 64 bits of two's complement.
use Rattle.std.specs.Prelude.{ℕ, List, ℤ, Ok, Result}
use Rattle.answers.specs.declared.Refusal.{Refusal}
use Rattle.answers.specs.Answer.{◌>>=◌}
use Rattle.cell.specs.declared.Numbers.{Numbers}
use Rattle.page.specs.declared.Open.{Open}
use Rattle.cells.specs.Located.{row_number}
use Rattle.cells.specs.Numbered.{numbers_in}

abbrev pub key_of : Numbers → ℤ
key_of n = row_number n.key.value

-- of cell i of an opened page
abbrev pub key_in : Open → ℕ → List ℕ → Result ℤ Refusal
key_in o i db = do
  n ← numbers_in o i db
  Ok (key_of n)
