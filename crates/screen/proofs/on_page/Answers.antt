-- A page that is refused answers so for its cell; one that is opened, by its cells.
use mathlib.Core.Path.{sym, ◌∙◌}
use Rattle.addresses.proofs.Lists.{going-first, going-turned}
use Rattle.screen.proofs.Found.{refused-asked, opened-asked}
use Rattle.screen.proofs.on_page.Goals as goal

pub returns-in-Err : goal.returns-in-Err
returns-in-Err c =
    let a = c.args in
    going-turned (going-first c.requires.there) c.refused_in.ensures
    (refused-asked a.chosen a.db.now c.page_at.ensures (sym c.open_page.ensures ∙ c.in-Err.is))

pub returns-in-Ok : goal.returns-in-Ok
returns-in-Ok c =
    let a = c.args in
    going-turned (going-first c.requires.there) c.on_open.ensures
    (opened-asked a.chosen a.db.now c.page_at.ensures (sym c.open_page.ensures ∙ c.in-Ok.is) c.reading.ensures c.is_guarded.ensures)
