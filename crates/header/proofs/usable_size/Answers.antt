-- The difference is 0 where the reserved space is the larger.
use Rattle.header.specs.Header.{usable}
use Rattle.header.proofs.usable_size.Goals as goal

pub returns : goal.returns
unfolding usable
returns c = let p = c.page_size.ensures in let f = c.field.ensures in cc
