-- What a number of C's names.
use Rattle.std.specs.Prelude.{ℕ, eqb}
use Rattle.laws.specs.Pick.{pick}
use Rattle.reading.specs.declared.Reading.{Reading}
use Rattle.reading.specs.declared.Reading.TheVariants.{Old as old, File as file}
use Rattle.halves.specs.declared.Share.{Share}
use Rattle.halves.specs.declared.Share.TheVariants.{First, Second}
use Rattle.kinds.specs.declared.Kind.{Kind}
use Rattle.kinds.specs.declared.Kind.TheVariants.{InteriorIndex, InteriorTable, LeafIndex, LeafTable}
use Rattle.place.specs.declared.Page.{Page}

-- READINGS: 0 is old, any other number file

abbrev pub number_of : Reading → ℕ
number_of old = 0
number_of file = 1

abbrev pub reading_by : ℕ → Reading
reading_by number = pick (eqb number 0) old file

-- the page of that number, by the number of its reading
abbrev pub page_by : ℕ → ℕ → Page
page_by reading number = record { reading = reading_by reading; number = number }

-- HALVES OF A TABLE: 0 is the first, any other number the second

abbrev pub share_by : ℕ → Share
share_by half = pick (eqb half 0) First Second

-- KINDS: 13 and any number that is no kind's is a table leaf

abbrev pub kind_by : ℕ → Kind
kind_by byte = pick (eqb byte 2) InteriorIndex (pick (eqb byte 5) InteriorTable (pick (eqb byte 10) LeafIndex LeafTable))
