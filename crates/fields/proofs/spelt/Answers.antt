-- Where the part ends early, all of it is the field.
use native.Mathlib.Omega.{arith}
use lib.Dec.{lit<}
use lib.ListN.{length}
use Rattle.laws.proofs.Powers.{digits-within}
use Rattle.fields.proofs.spelt.Goals as goal

pub returns-in-None-clause-bound : goal.returns-in-None-clause-bound
returns-in-None-clause-bound c =
    digits-within 256 (length c.args.part.now) c.args.width (lit< tt) (let h = c.in-None.ensures.lookup.0 in grind arith) c.whole-in-None.ensures.bound
