-- What `fill` promises `page`: a table ys in which n entries are filled from place `from` on. The rest is as it was.
use Rattle.std.specs.Prelude.{ℕ, List, ◌++◌, take, drop, Result}
use Rattle.table.specs.declared.Entry.{Entry}
use Rattle.table.specs.Entry.{filled}
use Rattle.answers.specs.declared.Refusal.{Refusal}
use Rattle.page.specs.declared.Open.{Open}

abbrev pub filled_from : ℕ → Result Open Refusal → List ℕ → ℕ → List Entry → List Entry
filled_from from opening db n ys = take from ys ++ filled opening db n (drop from ys)
