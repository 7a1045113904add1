-- The cell of the page, turned.
use Rattle.std.proofs.Common.{ap, ◌∙◌}
use Rattle.place.specs.Place.{file_page}
use Rattle.cells.specs.Located.{located_of}
use Rattle.row.specs.Found.{found_by}
use Rattle.row.proofs.Placed.{placed}
use Rattle.row_head.specs.Head.{shortest_for}
use Rattle.row_head.proofs.Told.{shortest-located}
use Rattle.turns.specs.Rows.{cell_by}
use Rattle.exports.proofs.shorgavel_file_cell.Goals as goal
use Rattle.answers.specs.declared.Refusal.{Refusal}
use Rattle.row.specs.declared.FoundCell.{FoundCell}
use Rattle.std.specs.Prelude.{Result}

pub returns : goal.returns
returns c =
    let a = c.args in
    let x = located_of (file_page a.number) a.i a.db.now in
    let found = rw c.file.ensures at c.found-found.ensures in
    let shortest =
    c.shortest_of.ensures ∙ ap (λ (y : Result FoundCell Refusal). shortest_for y a.db.now) found
    ∙ shortest-located a.db.now x (λ l e. placed (file_page a.number) a.i a.db.now e) in
    c.cell_by.ensures ∙ ap (λ (y : Result FoundCell Refusal). cell_by y c.shortest_of.result) found ∙ ap (cell_by (found_by x)) shortest
