-- The place of the value is lent by itself.
use Prim.Native.Nat.{◌+◌}
use mathlib.Core.Path.{refl}
use Rattle.turns.specs.Words.{words_of}
use Rattle.words.proofs.Laws.{laid_through}
use Rattle.filled.proofs.whole.put_at.Goals as goal

pub returns-clause-table : goal.returns-clause-table
returns-clause-table c =
    let a = c.args in
    laid_through a.table.now (words_of a.value) _ a.place (a.place + 5) c.put_value.ensures refl c.requires
