-- The theorem of specs/Length.antt.
use Rattle.chain.proofs.Laws.{gathered-length}
use Rattle.judged.specs.Length.{AsLongAsSaid}

pub as-long-as-said : AsLongAsSaid
as-long-as-said o i room db g e = gathered-length o i room db e
