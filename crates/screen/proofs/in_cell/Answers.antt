-- A cell that is refused answers so for its columns; one that is found, by them: it was checked.
use mathlib.Core.Path.{sym, ◌∙◌}
use Rattle.addresses.proofs.Lists.{going-first, going-turned}
use Rattle.screen.proofs.Found.{found-checked, cell-asked}
use Rattle.screen.proofs.in_cell.Goals as goal

pub in_row-requires-clause-whole : goal.in_row-requires-clause-whole
in_row-requires-clause-whole c =
    let a = c.args in
    found-checked a.guarded a.opened c.cell_at.result a.db.now (sym c.found_in.ensures ∙ c.in-Ok.is)

pub returns-in-Err : goal.returns-in-Err
returns-in-Err c =
    let a = c.args in
    going-turned (going-first c.requires.there) c.refused_in.ensures
    (cell-asked a.reading a.guarded a.opened a.db.now a.addresses.now a.at c.cell_at.ensures (sym c.found_in.ensures ∙ c.in-Err.is))

pub returns-in-Ok : goal.returns-in-Ok
returns-in-Ok c =
    let a = c.args in
    going-turned (going-first c.requires.there) c.in_row.ensures
    (cell-asked a.reading a.guarded a.opened a.db.now a.addresses.now a.at c.cell_at.ensures (sym c.found_in.ensures ∙ c.in-Ok.is))
