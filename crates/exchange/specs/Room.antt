-- THEOREM: 19 (`TableTooShort`) counts against the half. A page with more cells than half of the table has entries is refused by it,
-- whoever asks for it; for any other page the table's length decides nothing.
use Rattle.std.specs.Prelude.{ℕ, ◌/◌, ◌≤◌, ◌<◌, ◌≡◌, List, length, Ok}
use Rattle.answers.specs.declared.Reason.TheVariants.{TableTooShort}
use Rattle.place.specs.declared.Page.{Page}
use Rattle.page.specs.declared.Open.{Open}
use Rattle.site.specs.Site.{on_page}
use Rattle.page.specs.Open.{open_of}
use Rattle.table.specs.declared.Entry.{Entry}
use Rattle.table.specs.Page.{page_of}
use Rattle.exchange.specs.Run.{Truck, asks, answer}

abbrev pub HalfCounts : Type 0
HalfCounts = (t : Truck) (page : Page) (db : List ℕ) (ys : List Entry) (o : Open) → open_of page db ≡ Ok o
    → (length ys / 2 < o.cells → answer (asks t page db) ys ≡ on_page page TableTooShort)
    × (o.cells ≤ length ys / 2 → answer (asks t page db) ys ≡ page_of page o.cells db)
