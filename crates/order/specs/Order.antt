-- The order of a table: each number, row number or key, is above all that came before it and at most a bound.
use Rattle.std.specs.Prelude.{ℕ, List, Bool, true, false, ℤ, Err, None, Ok, Option, Result, Some}
use Rattle.std.specs.Int.Signed.{lt_z}
use Rattle.laws.specs.Pick.{pick}
use Rattle.answers.specs.declared.Fault.TheVariants as fa
use Rattle.answers.specs.declared.Refusal.{Refusal}
use Rattle.answers.specs.declared.Refusal.TheVariants.{InCell}
use Rattle.answers.specs.Answer.{◌>>=◌}
use Rattle.cell.specs.declared.Numbers.{Numbers}
use Rattle.page.specs.declared.Open.{Open}
use Rattle.cells.specs.Numbered.{numbers_in}
use Rattle.keys.specs.Key.{key_of}
use Rattle.order.specs.declared.Down.{Down}

-- what an interior cell leads to
abbrev pub down_to : ℕ → ℤ → Result Down Refusal
down_to child key = Ok (record { child = child; key = key })

abbrev pub above : Option ℤ → ℤ → Bool
above None x = true
above (Some last) x = lt_z last x

abbrev pub fits_in : Option ℤ → ℤ → ℤ → Bool
fits_in low most x = pick (lt_z most x) false (above low x)

-- numbers in their place, or the cell i that is out of order
abbrev pub placed : Open → ℤ → ℕ → Option ℤ → Numbers → Result Numbers Refusal
placed o most i low n = pick (fits_in low most (key_of n)) (Ok n) (Err (InCell o.page.number i fa.OutOfOrder))

-- the numbers of cell i of an opened page, in their place
unfoldable pub placed_in : Open → List ℕ → ℤ → ℕ → Option ℤ → Result Numbers Refusal
placed_in o db most i low = do
  n ← numbers_in o i db
  placed o most i low n

-- as the code has it: of a leaf the row number, of an interior page the child and its key
abbrev pub placed_key : Result Numbers Refusal → Result ℤ Refusal
placed_key (Err r) = Err r
placed_key (Ok n) = Ok (key_of n)

abbrev pub placed_down : Result Numbers Refusal → Result Down Refusal
placed_down (Err r) = Err r
placed_down (Ok n) = down_to n.child (key_of n)
