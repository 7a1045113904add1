-- THEOREM: behind whatever calls of both trucks, the table is as long as it was, and a call answers what the page call answers of its
-- own bytes and its own page that is lent half as many entries. So the answer depends on these and the table's length alone.
use Rattle.std.specs.Prelude.{ℕ, ◌/◌, ◌≡◌, List, length}
use Rattle.place.specs.declared.Page.{Page}
use Rattle.table.specs.declared.Entry.{Entry}
use Rattle.table.specs.Page.{page_of}
use Rattle.exchange.specs.Run.{Truck, Call, asks, answer, after}

abbrev pub LengthKept : Type 0
LengthKept = (calls : List Call) (ys : List Entry) → length (after calls ys) ≡ length ys

abbrev pub AnswersAlone : Type 0
AnswersAlone = (before : List Call) (t : Truck) (page : Page) (db : List ℕ) (ys : List Entry)
    → answer (asks t page db) (after before ys) ≡ page_of page (length ys / 2) db
