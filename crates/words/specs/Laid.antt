-- Words in a place of a lent table.
use Rattle.std.specs.Prelude.{List, ltb, ℤ, length}
use Rattle.std.proofs.lemmas.List.Edits.{sets}
use Rattle.laws.specs.Pick.{pick}

-- from its start on; a place that has no room for all of them is left as it was
unfoldable pub laid_in : List ℤ → List ℤ → List ℤ
laid_in place words = pick (ltb (length place) (length words)) place (sets place 0 words)
