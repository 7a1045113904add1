-- The theorem: of the truck's own calls (`own_alone`), those that are refused leave the half as it was (`refused-keeps`).
use mathlib.Core.Path.{◌≡◌, refl, ap, ◌∙◌}
use mathlib.Core.List.{List, [], ◌∷◌, ◌++◌}
use Prim.Native.Nat.{ℕ}
use lib.ListN.{length}
use Rattle.halves.specs.Halves.{lent_of}
use Rattle.halves.proofs.Laws.{lent_length, within-whole}
use Rattle.halves.specs.declared.Share.TheVariants.{Whole, First, Second}
use Rattle.place.specs.declared.Page.{Page}
use Rattle.page.specs.Open.{open_of}
use Rattle.table.specs.declared.Entry.{Entry}
use Rattle.table.specs.declared.Head.{Head}
use Rattle.table.specs.Entry.{filled}
use Rattle.table.specs.Page.{page_of, written}
use Rattle.lent.specs.Call.{answer_of}
use Rattle.page_theorems.proofs.Refused.{refused-keeps}
use Rattle.exchange.specs.Run.{Truck, one, two, Call, asks, half_of, answer, left, after, own, alone}
use Rattle.exchange.specs.Last.{AllRefused, LastAccepted, NoneAccepted}
use Rattle.exchange.proofs.Halves.{left-length, left-own}
use Rattle.exchange.proofs.Answers.{length-kept}
use Rattle.exchange.proofs.Alone.{own_alone}
use Rattle.answers.specs.declared.Refusal.{Refusal}
use Rattle.std.specs.Prelude.{Ok, Result}

-- calls behind each other
after_both : (before later : List Call) (ys : List Entry) → after (before ++ later) ys ≡ after later (after before ys)
after_both [] later ys = refl
after_both (c ∷ before) later ys = after_both before later (left c ys)

-- a call's answer on its half as a whole table
on-half : (t : Truck) (page : Page) (db : List ℕ) (ys : List Entry)
    → answer_of Whole page db (length (lent_of (half_of t) ys)) ≡ answer (asks t page db) ys
on-half t page db ys = ap (λ (room : ℕ). page_of page room db) (lent_length (half_of t) ys)

-- own calls that are all refused, on the half as a whole table
alone-refused : (t : Truck) (calls : List Call) (ys : List Entry) → AllRefused (own t calls) ys
    → alone (own t calls) (lent_of (half_of t) ys) ≡ lent_of (half_of t) ys
alone-refused t [] ys none = refl
alone-refused one (asks one page db ∷ calls) ys none =
    ap (alone (own one calls)) (refused-keeps Whole page db (lent_of First ys) none.0.0 (on-half one page db ys ∙ none.0.1))
    ∙ alone-refused one calls ys none.1
alone-refused one (asks two page db ∷ calls) ys none = alone-refused one calls ys none
alone-refused two (asks one page db ∷ calls) ys none = alone-refused two calls ys none
alone-refused two (asks two page db ∷ calls) ys none =
    ap (alone (own two calls)) (refused-keeps Whole page db (lent_of Second ys) none.0.0 (on-half two page db ys ∙ none.0.1))
    ∙ alone-refused two calls ys none.1

pub none-accepted : NoneAccepted
none-accepted t calls ys none = own_alone t calls ys ∙ alone-refused t calls ys none

-- an answer depends on the table's length alone, and so does a refusal
same_answer : (c : Call) (ys zs : List Entry) → length zs ≡ length ys → answer c zs ≡ answer c ys
same_answer (asks t page db) ys zs l = ap (λ (n : ℕ). answer_of (half_of t) page db n) l

still-refused : (calls : List Call) (ys zs : List Entry) → length zs ≡ length ys → AllRefused calls ys → AllRefused calls zs
still-refused [] ys zs l none = tt
still-refused (c ∷ calls) ys zs l none =
    ((none.0.0, same_answer c ys zs l ∙ none.0.1), still-refused calls ys zs l none.1)

-- a call that is accepted, on its half
accepted-half : (t : Truck) (page : Page) (db : List ℕ) (head : Head) (ys : List Entry) → answer (asks t page db) ys ≡ Ok head
    → lent_of (half_of t) (left (asks t page db) ys) ≡ filled (open_of page db) db head.cells (lent_of (half_of t) ys)
accepted-half t page db head ys e =
    let o = open_of page db in
    let half = lent_of (half_of t) ys in
    left-own page db ys (half_of t)
    ∙ within-whole (filled o db (written (page_of page (length half) db))) half
    ∙ ap (λ (r : Result Head Refusal). filled o db (written r) half) (on-half t page db ys ∙ e)

pub last-accepted : LastAccepted
last-accepted t before page db head later ys e none =
    let c = asks t page db in
    let zs = after before ys in
    ap (lent_of (half_of t)) (after_both before (c ∷ later) ys)
    ∙ none-accepted t later (left c zs) (still-refused (own t later) ys (left c zs) (left-length page db zs (half_of t) ∙ length-kept before ys) none)
    ∙ accepted-half t page db head zs (same_answer c ys zs (length-kept before ys) ∙ e)
