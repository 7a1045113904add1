-- What callers cite of a table and its shares: a share lies in its table, and the halves behind each other; who changes all of a table as a share changes it as it is;
-- who leaves a share as it was leaves the table so; and who changes a share and keeps its length (`kept`) keeps the table's, and
-- changes nothing else.
use Prim.Native.Nat.{ℕ, ◌+◌, ◌-◌, ◌*◌, ◌/◌, ◌≤◌}
use mathlib.Core.Path.{◌≡◌, ap, ◌∙◌}
use mathlib.Core.List.{List, ◌++◌, append-nil, append_assoc}
use native.Mathlib.Omega.{arith}
use native.Mathlib.Nat.{zero-add}
use lib.ListN.{length, take, drop, length-append, length-drop, take-append-drop}
use lib.Seq.{length-take-le, take-length, take_at, drop_at, take-append-le, take-take, take-add, drop-drop, drop-length}
use Rattle.halves.specs.declared.Share.{Share}
use Rattle.halves.specs.declared.Share.TheVariants.{Whole as whole, First as first, Second as second}
use Rattle.halves.specs.Halves.{start_of, room_of, lent_of, within}

-- a share lies in its table
pub share-within : (share : Share) (n : ℕ) → start_of share n + room_of share n ≤ n
share-within whole n = omega arith
share-within first n = omega arith
share-within second n = omega arith

-- the second half starts behind the first, and ends where neither has a place
pub halves-apart : (n : ℕ) → start_of first n + room_of first n ≤ start_of second n
halves-apart n = omega arith

pub halves-end : (n : ℕ) → start_of second n + room_of second n ≤ 2 * (n / 2)
halves-end n = omega arith

module _ {A : Type 0} where
  pub lent_length : (share : Share) (xs : List A) → length (lent_of share xs) ≡ room_of share (length xs)
  lent_length share xs =
      length-take-le (room_of share (length xs)) (drop (start_of share (length xs)) xs) (omega (arith, length-drop (start_of share (length xs)) xs, share-within share (length xs)))

  pub within-whole : (f : List A → List A) (xs : List A) → within whole f xs ≡ f xs
  within-whole f xs = rw (zero-add (length xs), take-length xs, drop-length xs, append-nil (f xs))

  -- where f leaves the share as it was
  pub within_same : (share : Share) (f : List A → List A) (xs : List A) → f (lent_of share xs) ≡ lent_of share xs → within share f xs ≡ xs
  within_same share f xs e =
      let start = start_of share (length xs) in
      let room = room_of share (length xs) in
      rw (e, ← take-add start room xs) (take-append-drop (start + room) xs)

  -- f changes a share and keeps its length
  module _ (share : Share) (f : List A → List A) (xs : List A) (kept : length (f (lent_of share xs)) ≡ room_of share (length xs)) where
    abbrev start : ℕ
    start = start_of share (length xs)

    abbrev room : ℕ
    room = room_of share (length xs)

    abbrev front : List A
    front = take start xs

    abbrev changed : List A
    changed = f (lent_of share xs)

    abbrev rest : List A
    rest = drop (start + room) xs

    front_length : length front ≡ start
    front_length = length-take-le start xs (omega (arith, share-within share (length xs)))

    before-length : length (front ++ changed) ≡ start + room
    before-length = length-append front changed ∙ omega (arith, front_length, kept)

    pub within-length : length (within share f xs) ≡ length xs
    within-length =
        length-append (front ++ changed) rest
        ∙ omega (arith, before-length, length-drop (start + room) xs, share-within share (length xs))

    -- the share itself
    pub within-lent : lent_of share (within share f xs) ≡ changed
    within-lent =
        let from_start = drop_at front (changed ++ rest) start front_length in
        rw (within-length, append_assoc front changed rest) (ap (take room) from_start ∙ take_at changed rest room kept)

    -- what is before it
    pub within-before : (n : ℕ) → n ≤ start → take n (within share f xs) ≡ take n xs
    within-before n h =
        let in-front = take-append-le n front (changed ++ rest) (omega (arith, front_length, h)) in
        rw (append_assoc front changed rest) (in-front ∙ take-take n start xs h)

    -- and what is behind it
    pub within-behind : (n : ℕ) → start + room ≤ n → drop n (within share f xs) ≡ drop n xs
    within-behind n h =
        let more = n - (start + room) in
        let m : start + room + more ≡ n = omega (arith, h) in
        let behind = drop_at (front ++ changed) rest (start + room) before-length in
        rw (← m, ← drop-drop more (start + room) (within share f xs), ← drop-drop more (start + room) xs) (ap (drop more) behind)
