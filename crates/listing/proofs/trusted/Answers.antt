-- The walk decides before anything is written.
use mathlib.Core.Path.{sym}
use Rattle.trust.proofs.Firsts.{agrees-counted}
use Rattle.listing.proofs.trusted.Goals as goal

pub fill-requires : goal.fill-requires
fill-requires c =
    let a = c.args in
    (agrees-counted a.root a.db.now (rw c.in-Agrees.is at (sym c.in_ok-rows.ensures))).0
