-- The cells of a page, one behind the other: each is found once for all addresses that name it in a row.
use mathlib.Core.Path.{sym, ◌∙◌}
use Rattle.addresses.proofs.Lists.{going-turned, going_on}
use Rattle.screen.proofs.Found.{page-asked}
use Rattle.screen.proofs.on_open.Goals as goal

-- the addresses of one cell more
pub returns-then-count-i : goal.returns-then-count-i
returns-then-count-i c =
    let a = c.args in
    let l = c.loop-i in
    going-turned l.invariant.0 c.in_cell-i.ensures (page-asked a.reading a.guarded a.opened a.db.now a.addresses.now a.at l.i l.invariant.2)

pub loop-i-preserved : goal.loop-i-preserved
loop-i-preserved c =
    let a = c.args in
    let l = c.loop-i in
    let turned = going-turned l.invariant.0 c.in_cell-i.ensures (page-asked a.reading a.guarded a.opened a.db.now a.addresses.now a.at l.i l.invariant.2) in
    let page = sym c.page_at.ensures ∙ c.if-page_at-page.false ∙ c.page_at-page.ensures in
    (going_on turned c.if-count-i.false, l.invariant.1, page, l.invariant.3)
