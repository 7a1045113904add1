-- `probe::lend` meets its contract: the array, of eight places, is lent whole, for the call alone, and is the local's again behind it, at the
-- list that the page call left. The page call's share is all of it (`within-whole`). Of the page call it is known that it meets its contract.
use Rattle.std.proofs.Common.{ℕ, ◌≡◌, List, length, arith, ◌∙◌}
use Rattle.halves.proofs.Laws.{within-whole}
use Rattle.page.specs.Open.{open_of}
use Rattle.place.specs.declared.Page.{Page}
use Rattle.table.specs.declared.Entry.{Entry}
use Rattle.table.specs.Entry.{filled}
use Rattle.table.specs.Page.{page_of, written}
use Rattle.probe.specs.declared.Returned.{Returned}
use Rattle.probe.specs.Probe.{returned_of}
use Rattle.probe.proofs.lend.Goals as goal
use Rattle.answers.specs.declared.Refusal.{Refusal}
use Rattle.std.specs.Prelude.{Result}
use Rattle.table.specs.declared.Head.{Head}

-- of a table ys: what a page call leaves of it
abbrev left : Page → List ℕ → List Entry → List Entry
left asked db ys = filled (open_of asked db) db (written (page_of asked (length ys) db)) ys

abbrev both : Result Head Refusal → List Entry → Returned
both a t = record { answer = a; table = t }

of-eight : (asked : Page) (db : List ℕ) (ys : List Entry) (a : Result Head Refusal) (t : List Entry)
    → length ys ≡ 8 → a ≡ page_of asked (length ys) db → t ≡ left asked db ys → both a t ≡ returned_of asked db ys
unfolding returned_of
of-eight asked db ys a t eight e l = rw (e, l, eight)

pub returns : goal.returns
returns c =
    let ys = c.args.table in
    let asked = c.args.asked in
    let db = c.args.db.now in
    let eight : length ys ≡ 8 = omega arith in
    let whole = within-whole (filled (open_of asked db) db (written (page_of asked (length ys) db))) ys in
    of-eight asked db ys _ _ eight c.page-answer.ensures.0 (c.page-answer.ensures.1 ∙ whole)
