-- Two trucks over one table of cell entries: the page calls of both, in any order and any number of them, and what is left of the table.
use Rattle.std.specs.Prelude.{ℕ, List, [], ◌∷◌, length, Result}
use Rattle.halves.specs.declared.Share.{Share}
use Rattle.halves.specs.declared.Share.TheVariants.{Whole, First, Second}
use Rattle.place.specs.declared.Page.{Page}
use Rattle.table.specs.declared.Entry.{Entry}
use Rattle.lent.specs.Call.{answer_of, left_of}
use Rattle.answers.specs.declared.Refusal.{Refusal}
use Rattle.table.specs.declared.Head.{Head}

pub data Truck : Type 0 where
  one : Truck
  two : Truck

-- each has its half of the table
abbrev pub half_of : Truck → Share
half_of one = First
half_of two = Second

-- a page call: whose it is, the page that it asks for, and the bytes of its database
pub data Call : Type 0 where
  asks : Truck → Page → List ℕ → Call

-- what a call answers that is lent the table ys, and what it leaves of it, as `lent::page` promises them
abbrev pub answer : Call → List Entry → Result Head Refusal
answer (asks t page db) ys = answer_of (half_of t) page db (length ys)

abbrev pub left : Call → List Entry → List Entry
left (asks t page db) ys = left_of (half_of t) page db ys

-- the table behind a row of calls
abbrev pub after : List Call → List Entry → List Entry
after [] ys = ys
after (c ∷ calls) ys = after calls (left c ys)

-- the calls of one truck, in their order
abbrev pub own : Truck → List Call → List Call
own t [] = []
own one (asks one page db ∷ calls) = asks one page db ∷ own one calls
own one (asks two page db ∷ calls) = own one calls
own two (asks one page db ∷ calls) = own two calls
own two (asks two page db ∷ calls) = asks two page db ∷ own two calls

-- a table of its own behind a row of calls: each is lent all of it, whosever it is
abbrev pub alone : List Call → List Entry → List Entry
alone [] ys = ys
alone (asks t page db ∷ calls) ys = alone calls (left_of Whole page db ys)
