-- Whether a payload spills, by its size.
use Rattle.std.specs.Prelude.{ℕ, Bool, false, ltb}
use Rattle.laws.specs.Pick.{pick}
use Rattle.reading.specs.declared.Reading.{Reading}
use Rattle.reading.specs.declared.Reading.TheVariants.{Old as old, File as file}
use Rattle.kinds.specs.Kind.{has_size, most_whole}
use Rattle.page.specs.declared.Open.{Open}

-- whether a payload of p bytes spills: in the file reading, over what may lie whole on a page
abbrev pub over_in : Reading → ℕ → ℕ → Bool
over_in old x p = false
over_in file x p = ltb x p

-- in a cell of an opened page
abbrev pub over : Open → ℕ → Bool
over o p = pick (has_size o.kind) (over_in o.page.reading (most_whole o.kind o.end) p) false
