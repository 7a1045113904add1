-- The rows come out as they stand when the definitions are computed.
use mathlib.Core.Path.{refl}
use Rattle.varint.specs.Varint.{scan}
use Rattle.shortest.specs.Shortest.{digits, sevens, encode, shortest}
use Rattle.shortest.specs.Rows.{row_again, RowsWorked, SpareWorked}

pub rows-worked : RowsWorked
unfolding row_again encode sevens digits
rows-worked = refl

pub spare-worked : SpareWorked
unfolding scan shortest encode sevens digits
spare-worked = (refl, refl)
