-- Checks in an order: a list of flaws, each with the test by which it is given. The first that is given decides, so a list of
-- checks is a table of refusals read from the top.
use Rattle.std.specs.Prelude.{List, [], ◌∷◌, Bool, Err, Ok, Result, ⊤}
use Rattle.laws.specs.Pick.{pick}
use Rattle.answers.specs.declared.Flaw.{Flaw}

pub data Check : Type 0 where
  check : Flaw → Bool → Check

abbrev pub first : List Check → Result ⊤ Flaw
first [] = Ok tt
first (check flaw given ∷ rest) = pick given (Err flaw) (first rest)
