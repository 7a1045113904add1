-- THEOREM: the half of a truck holds what the last of its own calls that was accepted wrote: the entries of that page first, and behind
-- them what the half held before that call. Where none was accepted, it is as it was. Whatever the other truck did.
use Rattle.std.specs.Prelude.{◌≡◌, List, [], ◌∷◌, ◌++◌, ℕ, Err, Ok}
use Rattle.answers.specs.declared.Refusal.{Refusal}
use Rattle.halves.specs.Halves.{lent_of}
use Rattle.place.specs.declared.Page.{Page}
use Rattle.page.specs.Open.{open_of}
use Rattle.table.specs.declared.Entry.{Entry}
use Rattle.table.specs.declared.Head.{Head}
use Rattle.table.specs.Entry.{filled}
use Rattle.exchange.specs.Run.{Truck, Call, asks, half_of, answer, after, own}

-- each of these calls is refused that is lent the table ys
abbrev pub AllRefused : List Call → List Entry → Type 0
AllRefused [] ys = Unit {0}
AllRefused (c ∷ calls) ys = ((refusal : Refusal) × (answer c ys ≡ Err refusal)) × AllRefused calls ys

abbrev pub LastAccepted : Type 0
LastAccepted = (t : Truck) (before : List Call) (page : Page) (db : List ℕ) (head : Head) (later : List Call) (ys : List Entry)
    → answer (asks t page db) ys ≡ Ok head
    → AllRefused (own t later) ys
    → lent_of (half_of t) (after (before ++ asks t page db ∷ later) ys)
    ≡ filled (open_of page db) db head.cells (lent_of (half_of t) (after before ys))

abbrev pub NoneAccepted : Type 0
NoneAccepted = (t : Truck) (calls : List Call) (ys : List Entry)
    → AllRefused (own t calls) ys
    → lent_of (half_of t) (after calls ys) ≡ lent_of (half_of t) ys
