-- What callers cite of the readings.
use Prim.Native.Nat.{◌≤◌}
use native.Mathlib.Omega.{arith}
use Rattle.reading.specs.declared.Reading.{Reading}
use Rattle.reading.specs.declared.Reading.TheVariants.{Old as old, File as file}
use Rattle.reading.specs.Reading.{limit}

-- both take varints of five bytes
pub takes-five : (r : Reading) → 5 ≤ limit r
takes-five old = omega arith
takes-five file = omega arith
