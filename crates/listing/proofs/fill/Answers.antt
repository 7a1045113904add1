-- The rows that were counted are those that are stored, and there is room for them.
use Prim.Native.Nat.{◌*◌}
use mathlib.Core.Path.{◌≡◌, ◌∙◌}
use native.Mathlib.Omega.{arith}
use lib.ListN.{length}
use Rattle.standing.specs.Rows.{all_rows}
use Rattle.standing.proofs.Whole.{whole, whole-counted}
use Rattle.listing.specs.Listed.{words}
use Rattle.listing.proofs.Storing.{words-length, stored}
use Rattle.listing.proofs.fill.Goals as goal

pub rows-requires : goal.rows-requires
rows-requires c =
    let a = c.args in
    let counted = whole-counted a.root a.db.now c.requires (omega arith) in
    omega (arith, counted, words-length (all_rows 20 a.db.now a.root))

pub returns-clause-list : goal.returns-clause-list
returns-clause-list c =
    let a = c.args in
    let same = whole a.root a.db.now c.requires in
    let counted = whole-counted a.root a.db.now c.requires (omega arith) in
    let rows = words (all_rows 20 a.db.now a.root) in
    let long : length rows ≡ 3 * a.count = omega (arith, counted, words-length (all_rows 20 a.db.now a.root)) in
    c.rows.ensures.list ∙ rw same (stored rows a.list.now (3 * a.count) long (omega arith))
