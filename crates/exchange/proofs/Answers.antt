-- No call changes the table's length, and of the table a call's answer sees no more.
use Prim.Native.Nat.{ℕ, ◌/◌}
use mathlib.Core.Path.{refl, ap, ◌∙◌}
use mathlib.Core.List.{[], ◌∷◌}
use Rattle.table.specs.Page.{page_of}
use Rattle.exchange.specs.Run.{one, two, asks, half_of, left}
use Rattle.exchange.specs.Answers.{LengthKept, AnswersAlone}
use Rattle.exchange.proofs.Halves.{left-length}

pub length-kept : LengthKept
length-kept [] ys = refl
length-kept (asks t page db ∷ calls) ys = length-kept calls (left (asks t page db) ys) ∙ left-length page db ys (half_of t)

pub answers-alone : AnswersAlone
answers-alone before one page db ys = ap (λ (n : ℕ). page_of page (n / 2) db) (length-kept before ys)
answers-alone before two page db ys = ap (λ (n : ℕ). page_of page (n / 2) db) (length-kept before ys)
