-- All rows: the second walk stores what the first has found.
use Rattle.standing.proofs.Whole.{whole}
use Rattle.trees.specs.Trees.{EveryRow}

pub every-row : EveryRow
every-row n db m e = whole n db e
