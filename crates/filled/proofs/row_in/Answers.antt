-- A row that is found was checked, so that its values are all there.
use mathlib.Core.Path.{sym}
use Rattle.filled.proofs.Found.{found-whole}
use Rattle.filled.proofs.row_in.Goals as goal

pub fill-filled-requires : goal.fill-filled-requires
fill-filled-requires c = let a = c.args in found-whole a.opened a.i a.db.now a.guarded (sym c.in-Ok.ensures)
