-- Words laid in a place: in one that has room, and in one that is part of a table.
use Prim.Native.Nat.{ℕ, ◌+◌, ◌-◌, ◌≤◌, ◌<◌}
use mathlib.Core.Path.{◌≡◌, sym, ◌∙◌}
use mathlib.Core.List.{List, [], ◌++◌, append-nil, append_assoc}
use native.Mathlib.Nat.{le_of_eq, zero-add}
use native.Mathlib.Omega.{arith}
use lib.IntN.{ℤ}
use lib.ListN.{length, take, drop, length-drop, drop_of_length-le}
use lib.Seq.{sets, sets-eq, length-take-le, drop-drop}
use borrow.Author.Tests.{lt-ltb, le-ltb}
use Rattle.words.specs.Laid.{laid_in}

module _ (place words : List ℤ) where
  -- one that has no room for all of them
  pub laid-short : length place < length words → laid_in place words ≡ place
  unfolding laid_in
  laid-short h = rw (lt-ltb (length place) (length words) h)

  pub laid : length words ≤ length place → laid_in place words ≡ sets place 0 words
  unfolding laid_in
  laid h = rw (le-ltb (length place) (length words) h)

  -- one that has just the room
  pub laid-all : length place ≡ length words → laid_in place words ≡ words
  laid-all e =
      let none : drop (length words) place ≡ [] = drop_of_length-le place (le_of_eq e) in
      laid (omega (arith, e)) ∙ sets-eq words place 0 (omega (arith, e)) ∙ rw (zero-add, none) (append-nil words)

-- a place from `at` to `stop` of a table, as it is lent and taken back
pub laid-part : (table words : List ℤ) (at stop : ℕ) → at + length words ≡ stop → stop ≤ length table
    → take at table ++ (laid_in (take (stop - at) (drop at table)) words ++ drop (stop - at) (drop at table)) ≡ sets table at words
laid-part table words at stop e h =
    let n : stop - at ≡ length words = omega (arith, e) in
    let l : length (take (length words) (drop at table)) ≡ length words
    = length-take-le (length words) (drop at table) (rw length-drop (omega (arith, e))) in
    rw (n, laid-all (take (length words) (drop at table)) words l, drop-drop (length words) at table)
    (sym (append_assoc (take at table) words (drop (at + length words) table)) ∙ sym (sets-eq words table at (omega (arith, e))))

-- the same, where what is in it is known by another name
pub laid_through : (table words part : List ℤ) (at stop : ℕ) → part ≡ laid_in (take (stop - at) (drop at table)) words
    → at + length words ≡ stop → stop ≤ length table → take at table ++ (part ++ drop (stop - at) (drop at table)) ≡ sets table at words
laid_through table words part at stop p e h = rw p (laid-part table words at stop e h)
