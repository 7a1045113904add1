-- `lent::fill` meets its contract: a turn takes the reader's entry and stores it to one place more (`from_next`). Of the reader it is known
-- that it meets its contract, and no more.
use Rattle.std.proofs.Common.{◌+◌, ◌<◌, length, arith, sym}
use Rattle.lent.proofs.Filled.{from-0, from_next}
use Rattle.lent.proofs.fill.Goals as goal

pub loop-i-init : goal.loop-i-init
loop-i-init c = let a = c.args in sym (from-0 a.from a.opening a.db.now a.table.now)

pub loop-i-preserved : goal.loop-i-preserved
loop-i-preserved c =
    let a = c.args in
    let room : a.from + c.loop-i.i < length a.table.now = omega arith in
    rw (c.loop-i.invariant, c.entry_by.ensures) (from_next a.from a.opening a.db.now c.loop-i.i a.table.now room)
