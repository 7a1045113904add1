-- A NaN is made by a division, since no pattern of one may be taken for a number.
use native.Mathlib.Omega.{arith}
use Rattle.values.proofs.Laws.{no_nan, the_nan}
use Rattle.values.proofs.real.number_of.Goals as goal

pub float_from_bits-result : goal.float_from_bits-result
float_from_bits-result c = no_nan c.args.bits (omega arith)

pub returns : goal.returns
returns c = the_nan c.args.bits (omega arith)
