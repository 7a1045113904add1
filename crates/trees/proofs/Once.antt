-- A place has one number, and numbers rise: so no place is listed twice.
use Prim.Native.Nat.{ℕ}
use mathlib.Core.Path.{◌≡◌, sym, ap, subst, ◌∙◌}
use mathlib.Core.List.{List, [], ◌∷◌}
use lib.IntN.{ℤ, pos}
use lib.Signed.{◌≤ℤ◌, clash_ℤ}
use Rattle.std.specs.Prelude.{None, Ok, Option, Some}
use Rattle.place.specs.Place.{file_page}
use Rattle.page.specs.declared.Open.{Open}
use Rattle.page.specs.Open.{open_of}
use Rattle.keys.specs.Key.{key_in}
use Rattle.trace.specs.Walk.{Row, rows_of}
use Rattle.trace.specs.Tree.{table_of}
use Rattle.trees.specs.Trees.{Rising, Cell, Each, Apart, Once, ListedOnce}
use Rattle.trees.proofs.Order.{le-lt, lt_to_le, same-le, rises}
use Rattle.trees.proofs.Places.{are-cells}

module _ (db : List ℕ) where
  one_number : (r q : Row) → Cell db r → Cell db q → r.page ≡ q.page → r.cell ≡ q.cell → r.number ≡ q.number
  one_number r q c d p i =
      let same : Ok c.o ≡ Ok d.o = sym c.there ∙ ap (λ (n : ℕ). open_of (file_page n) db) p ∙ d.there in
      let o : c.o ≡ d.o = cc in
      let k : Ok r.number ≡ Ok q.number = sym c.read ∙ ap (λ (x : Open). key_in x r.cell db) o ∙ ap (λ (j : ℕ). key_in d.o j db) i ∙ d.read in
      cc

  -- a row is apart from all that are above it
  apart : (most low : ℤ) (r : Row) → Cell db r → r.number ≤ℤ low → (rows : List Row) → Each (Cell db) rows → Rising (Some low) most rows → Each (Apart r) rows
  apart most low r c h [] cells up = tt
  apart most low r c h (q ∷ rows) cells up =
      let below = le-lt h up.1 in (
        (λ p i. clash_ℤ below (subst (λ (x : ℤ). x ≤ℤ r.number) (one_number r q c cells.0 p i) (same-le r.number))),
        apart most q.number r c (lt_to_le r.number q.number below) rows cells.1 up.2,
      )

  once : (low : Option ℤ) (most : ℤ) (rows : List Row) → Each (Cell db) rows → Rising low most rows → Once rows
  once low most [] cells up = tt
  once low most (r ∷ rows) cells up =
      (apart most r.number r cells.0 (same-le r.number) rows cells.1 up.2, once (Some r.number) most rows cells.1 up.2)

pub listed-once : ListedOnce
listed-once n db = once db None (pos 9223372036854775807) (rows_of (table_of n db)) (are-cells n db) (rises n db)
