-- A page that lies in the bytes is refused, where the table that is lent has fewer places than the page has cells.
use Prim.Native.Nat.{ℕ, ◌<◌}
use mathlib.Core.Path.{◌≡◌}
use mathlib.Core.List.{List}
use mathlib.Core.Bool.{true}
use lib.ListN.{length}
use borrow.Author.Tests.{lt-ltb}
use Rattle.answers.specs.declared.Reason.TheVariants as re
use Rattle.page.specs.declared.Open.{Open}
use Rattle.page.specs.Open.{lies_in}
use Rattle.site.specs.Site.{on_page}
use Rattle.table.specs.Page.{page_in}

pub page_short : (o : Open) (room : ℕ) (db : List ℕ)
    → lies_in (length db) o ≡ true → room < o.cells → page_in o room db ≡ on_page o.page re.TableTooShort
unfolding page_in
page_short o room db l h = rw (l, lt-ltb room o.cells h)
