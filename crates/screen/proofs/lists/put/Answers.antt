-- The place of the answer is lent by itself.
use Prim.Native.Nat.{◌+◌, ◌*◌}
use mathlib.Core.Path.{refl}
use Rattle.turns.specs.Words.{shown_words}
use Rattle.words.proofs.Laws.{laid_through}
use Rattle.screen.proofs.lists.put.Goals as goal

pub returns : goal.returns
returns c =
    let a = c.args in
    laid_through a.answers.now (shown_words a.shown) _ (8 * a.i) (8 * a.i + 8) c.put_shown.ensures refl c.requires
