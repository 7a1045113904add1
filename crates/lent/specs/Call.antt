-- The page call that is lent a share of the table ys: what it answers, and what it leaves of the table. The answer is that of a page
-- call whose table is the share alone, and so is what the share has behind it.
use Rattle.std.specs.Prelude.{ℕ, List, length, Result}
use Rattle.halves.specs.declared.Share.{Share}
use Rattle.halves.specs.Halves.{room_of, within}
use Rattle.place.specs.declared.Page.{Page}
use Rattle.page.specs.Open.{open_of}
use Rattle.table.specs.declared.Entry.{Entry}
use Rattle.table.specs.Entry.{filled}
use Rattle.table.specs.Page.{page_of, written}
use Rattle.answers.specs.declared.Refusal.{Refusal}
use Rattle.table.specs.declared.Head.{Head}

-- of a table of n places
abbrev pub answer_of : Share → Page → List ℕ → ℕ → Result Head Refusal
answer_of share asked db n = page_of asked (room_of share n) db

abbrev pub left_of : Share → Page → List ℕ → List Entry → List Entry
left_of share asked db ys =
    within share (filled (open_of asked db) db (written (answer_of share asked db (length ys)))) ys
