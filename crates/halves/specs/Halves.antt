-- A table and its two halves. Each half is as long as half of the table, rounded down: the first from the first place on, the
-- second behind it. The last place of an odd number of them is in neither.
use Rattle.std.specs.Prelude.{ℕ, ◌+◌, ◌/◌, List, ◌++◌, length, take, drop}
use Rattle.halves.specs.declared.Share.{Share}
use Rattle.halves.specs.declared.Share.TheVariants.{Whole as whole, First as first, Second as second}

-- the first place of a share of n places
abbrev pub start_of : Share → ℕ → ℕ
start_of whole n = 0
start_of first n = 0
start_of second n = n / 2

-- and how many places it has
abbrev pub room_of : Share → ℕ → ℕ
room_of whole n = n
room_of first n = n / 2
room_of second n = n / 2

module _ {A : Type 0} where
  -- a share of the table xs
  abbrev pub lent_of : Share → List A → List A
  lent_of share xs = take (room_of share (length xs)) (drop (start_of share (length xs)) xs)

  -- the table xs, of which f changes a share: all before it and all behind it is as it was
  abbrev pub within : Share → (List A → List A) → List A → List A
  within share f xs =
      take (start_of share (length xs)) xs ++ f (lent_of share xs) ++ drop (start_of share (length xs) + room_of share (length xs)) xs
