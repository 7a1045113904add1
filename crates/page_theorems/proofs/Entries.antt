-- An accepted page has only cells that are located, and the entry of a cell is made of the located cell.
use mathlib.Core.Path.{◌≡◌, sym, ap, ◌∙◌}
use Rattle.answers.specs.declared.Refusal.{Refusal}
use Rattle.page.specs.declared.Open.{Open}
use Rattle.page.specs.Open.{open_of}
use Rattle.cells.specs.Located.{Located, located_of, located_answer}
use Rattle.cells.proofs.Laws.{located-open}
use Rattle.shortest_cells.specs.Cells.{cell_shortest}
use Rattle.row_head.proofs.Told.{count-located, row-located}
use Rattle.table.specs.declared.Entry.{Entry}
use Rattle.table.specs.Entry.{entry_by, entry_for}
use Rattle.page_theorems.specs.Entries.{EntriesAgree}
use Rattle.table.proofs.Laws.{page-cell, entry-opened}
use Rattle.row_head.specs.Head.{count_told, row_told}
use Rattle.std.specs.Prelude.{Ok, Result}

pub entries-agree : EntriesAgree
entries-agree page room i db head e b =
    let c = page-cell page room i db e b in
    let s = c.steps in
    let located : located_of page i db ≡ Ok c.l = located-open page i db s.first ∙ s.second in
    let entry : entry_for (open_of page db) db i ≡ entry_by s.o (located_answer (Ok c.l)) =
    ap (λ (x : Result Open Refusal). entry_for x db i) s.first
    ∙ entry-opened s.o db i
    ∙ ap (λ (x : Result Located Refusal). entry_by s.o (located_answer x)) s.second in (
      cell_shortest c.l.cell,
      count-located page i db located ∙ ap (λ (y : Entry). count_told y.columns (cell_shortest c.l.cell)) (sym entry),
      row-located page i db located ∙ ap (λ (y : Entry). row_told y.row (cell_shortest c.l.cell)) (sym entry),
    )
