-- The call on a page opens it, and then finds the cell.
use Rattle.cells.proofs.Laws.{located-open}
use Rattle.page_theorems.specs.Opened.{OpenedFirst}

pub opened-first : OpenedFirst
opened-first page i db o e = located-open page i db e
