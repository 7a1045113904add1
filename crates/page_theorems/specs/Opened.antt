-- THEOREM: a cell of a page that was opened is the cell that the call on the page finds, refusals too.
use Rattle.std.specs.Prelude.{ℕ, ◌≡◌, List, Ok}
use Rattle.place.specs.declared.Page.{Page}
use Rattle.page.specs.declared.Open.{Open}
use Rattle.page.specs.Open.{open_of}
use Rattle.cells.specs.Located.{located_in, located_of}

abbrev pub OpenedFirst : Type 0
OpenedFirst = (page : Page) (i : ℕ) (db : List ℕ) (o : Open) → open_of page db ≡ Ok o → located_of page i db ≡ located_in o i db
