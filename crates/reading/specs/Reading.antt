-- Where the readings differ by a number.
use Rattle.std.specs.Prelude.{ℕ}
use Rattle.reading.specs.declared.Reading.{Reading}
use Rattle.reading.specs.declared.Reading.TheVariants.{Old as old, File as file}

-- the bytes of a varint, at most: the Rust stops at five, the format (1.6) has nine
abbrev pub limit : Reading → ℕ
limit old = 5
limit file = 9
