-- `lent::page` meets its contract: `check_by` sees the share's room alone, the entries that are counted of its answer keep to that room
-- (`cells-within`), and the share lies in the table (`share-within`), as `fill` asks. What `fill` leaves is the share, filled (`from-share`).
use Rattle.std.proofs.Common.{◌≡◌, length, arith, ap, ◌∙◌}
use Rattle.halves.specs.Halves.{room_of}
use Rattle.halves.proofs.Laws.{share-within}
use Rattle.page.specs.Open.{open_of}
use Rattle.table.specs.Page.{page_for, written}
use Rattle.table.proofs.Laws.{cells-within}
use Rattle.lent.proofs.Filled.{from-share}
use Rattle.lent.proofs.page.Goals as goal

pub fill-requires : goal.fill-requires
fill-requires c =
    let opening = c.open_page-opening.result in
    let room = c.room_of-room.result in
    let db = c.args.db.now in
    let counted : c.written_of-n.result ≡ written (page_for opening room db) = c.written_of-n.ensures ∙ ap written c.check_by-answer.ensures in
    omega (arith, counted, cells-within opening room db, share-within c.args.share (length c.args.table.now))

pub returns : goal.returns
returns c =
    let a = c.args in
    let opening = open_of a.asked a.db.now in
    let room = room_of a.share (length a.table.now) in
    let answer : c.check_by-answer.result ≡ page_for opening room a.db.now =
    rw (c.open_page-opening.ensures, c.room_of-room.ensures) at c.check_by-answer.ensures in
    let left = rw (c.start_of-from.ensures, c.open_page-opening.ensures, c.written_of-n.ensures, answer) at c.fill.ensures in
    (answer, left ∙ from-share a.share opening a.db.now (written (page_for opening room a.db.now)) a.table.now (cells-within opening room a.db.now))
