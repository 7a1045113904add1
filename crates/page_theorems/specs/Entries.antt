-- THEOREM: on a page that the page call accepts, the calls on a cell answer what its entry has, and both the same of its varints.
use Rattle.std.specs.Prelude.{ℕ, ◌<◌, ◌≡◌, List, Bool, Ok}
use Rattle.place.specs.declared.Page.{Page}
use Rattle.page.specs.Open.{open_of}
use Rattle.table.specs.declared.Head.{Head}
use Rattle.table.specs.Entry.{entry_for}
use Rattle.table.specs.Page.{page_of}
use Rattle.row_head.specs.Head.{count_of, row_of}
use Rattle.row_head.specs.Head.{count_told, row_told}

abbrev pub EntriesAgree : Type 0
EntriesAgree = (page : Page) (room i : ℕ) (db : List ℕ) (head : Head) → page_of page room db ≡ Ok head → i < head.cells
    → (s : Bool)
    × (count_of page i db ≡ count_told (entry_for (open_of page db) db i).columns s)
    × (row_of page i db ≡ row_told (entry_for (open_of page db) db i).row s)
