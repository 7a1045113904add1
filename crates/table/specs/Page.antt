-- The page call: the head of a page, all of whose cells are accepted. The first failing cell decides.
use Rattle.std.specs.Prelude.{ℕ, List, ltb, length, drop, Err, Ok, Result, ⊤}
use Rattle.laws.specs.Pick.{pick}
use Rattle.answers.specs.declared.Reason.TheVariants as re
use Rattle.answers.specs.declared.Refusal.{Refusal}
use Rattle.place.specs.declared.Page.{Page}
use Rattle.place.specs.Place.{page_at}
use Rattle.page.specs.declared.Open.{Open}
use Rattle.site.specs.Site.{on_page}
use Rattle.page.specs.Open.{open_of, lies_in}
use Rattle.sound.specs.Cells.{cells_from}
use Rattle.table.specs.declared.Head.{Head}
use Rattle.table.specs.Head.{head_of}

abbrev pub head_by : Head → Result ⊤ Refusal → Result Head Refusal
head_by head (Ok tt) = Ok head
head_by head (Err refusal) = Err refusal

-- an opened page, lent a table of `room` entries
unfoldable pub page_in : Open → ℕ → List ℕ → Result Head Refusal
page_in o room db =
    pick (lies_in (length db) o)
    (pick (ltb room o.cells) (on_page o.page re.TableTooShort)
    (head_by (head_of o (drop o.from (page_at o.at o.size db))) (cells_from o db 0 o.cells)))
    (on_page o.page re.PageAbsent)

-- AS THE CODE HAS IT

-- of a page as it was opened
unfoldable pub page_for : Result Open Refusal → ℕ → List ℕ → Result Head Refusal
page_for (Err refusal) room db = Err refusal
page_for (Ok o) room db = page_in o room db

abbrev pub page_of : Page → ℕ → List ℕ → Result Head Refusal
page_of page room db = page_for (open_of page db) room db

-- how many entries a call writes: all of an accepted page, none on a refusal
abbrev pub written : Result Head Refusal → ℕ
written (Ok head) = head.cells
written (Err refusal) = 0
