-- One byte by the law of one byte, any other length by comparing it.
use Rattle.shortest.proofs.Laws.{shortest-one, shortest-by}
use Rattle.shortest.proofs.is_shortest.Goals as goal

pub returns-then-number-eq1 : goal.returns-then-number-eq1
returns-then-number-eq1 c = shortest-one c.args.number c.if-number-eq1.true

pub returns : goal.returns
returns c = shortest-by c.args.number c.length_of.ensures
