-- The theorem: nothing is written where a page is refused.
use mathlib.Core.Path.{ap, ◌∙◌}
use Rattle.halves.specs.Halves.{lent_of, within}
use Rattle.halves.proofs.Laws.{within_same}
use Rattle.page.specs.Open.{open_of}
use Rattle.table.specs.Entry.{filled}
use Rattle.table.specs.Page.{written}
use Rattle.lent.proofs.Filled.{filled-0}
use Rattle.page_theorems.specs.Refused.{RefusedKeeps}

pub refused-keeps : RefusedKeeps
refused-keeps share asked db ys refusal e =
    let o = open_of asked db in
    ap (λ answer. within share (filled o db (written answer)) ys) e ∙ within_same share (filled o db 0) ys (filled-0 o db (lent_of share ys))
