-- What callers cite of pages: that one which is there lies in the bytes, and how long it is.
use Prim.Native.Nat.{ℕ, suc, ◌+◌, ◌-◌, ◌*◌, ◌^◌, ◌≤◌, ◌<◌}
use mathlib.Core.Path.{◌≡◌, refl, sym}
use mathlib.Core.List.{List}
use mathlib.Core.Bool.{Bool, true, false}
use native.Mathlib.Nat.{add-mul, mul-le-mul_right}
use native.Mathlib.Omega.{arith}
use lib.Dec.{ltb, eqb}
use lib.ListN.{length, drop, length-drop}
use lib.Seq.{length-take-le}
use borrow.Author.Tests.{ltb-false, ne_eqb}
use Rattle.laws.specs.Pick.{pick}
use Rattle.laws.proofs.Never.{never}
use Rattle.reading.specs.declared.Reading.{Reading}
use Rattle.reading.specs.declared.Reading.TheVariants.{Old as old, File as file}
use Rattle.shape.specs.declared.Shape.{Shape}
use Rattle.place.specs.declared.Page.{Page}
use Rattle.place.specs.Place.{old_page, file_page, header_at, place_from, behind_last, place_by, place_of, page_at}
use Rattle.place.specs.Place.{placed_at}
use Rattle.place.specs.declared.Place.{Place}
use Rattle.std.specs.Prelude.{None, Option, Some}

-- what is so of a place: the page lies in the bytes, and its header is at its beginning or behind the database's
abbrev pub Lies : ℕ → ℕ → Option Place → Type 0
Lies size bytes (Some place) = (place.at + size ≤ bytes) × (place.from ≤ 100)
Lies size bytes None = Unit {0}

header-near : (index : ℕ) → header_at index ≤ 100
header-near index = go (eqb index 0)
  where
    go : (b : Bool) → pick b 100 0 ≤ 100
    go true = omega arith
    go false = omega arith

from-lies : (bytes size index : ℕ) → Lies size bytes (place_from bytes size index)
from-lies bytes size index = go (ltb bytes (index * size + size)) refl
  where
    go : (b : Bool) → ltb bytes (index * size + size) ≡ b → Lies size bytes (pick b None (placed_at (index * size) (header_at index)))
    go true e = tt
    go false e = (ltb-false bytes (index * size + size) e, header-near index)

by-lies : (r : Reading) (bytes : ℕ) (shape : Shape) (number : ℕ) → Lies shape.page_size bytes (place_by r bytes shape number)
by-lies old bytes shape number = from-lies bytes shape.page_size number
by-lies file bytes shape number = go (eqb number 0) (behind_last shape number)
  where
    go : (b d : Bool) → Lies shape.page_size bytes (pick b None (pick d None (place_from bytes shape.page_size (number - 1))))
    go true d = tt
    go false true = tt
    go false false = from-lies bytes shape.page_size (number - 1)

pub place-lies : (page : Page) (bytes : ℕ) (shape : Shape) → Lies shape.page_size bytes (place_of page bytes shape)
unfolding place_of
place-lies page bytes shape = by-lies page.reading bytes shape page.number

-- a page by its index: the old reading counts them from 0
pub old-placed : (index bytes : ℕ) (shape : Shape) → place_of (old_page index) bytes shape ≡ place_from bytes shape.page_size index
unfolding place_of
old-placed index bytes shape = refl

-- and the file reading from 1, as many as there are
pub file-placed : (index bytes : ℕ) (shape : Shape)
    → place_of (file_page (suc index)) bytes shape ≡ pick (behind_last shape (suc index)) None (place_from bytes shape.page_size index)
unfolding place_of
file-placed index bytes shape = let m : suc index - 1 ≡ index = omega arith in rw (ne_eqb (suc index) 0 (omega arith), m)

-- a page of the file reading stands where the old one has it, counted from 0, in any shape of the same size
pub old-place : (n bytes : ℕ) (s t : Shape) {at from : ℕ} → s.page_size ≡ t.page_size
    → place_of (file_page n) bytes s ≡ placed_at at from → place_of (old_page (n - 1)) bytes t ≡ placed_at at from
unfolding place_of
old-place n bytes s t {at} {from} same e = rw (sym same) (go (eqb n 0) (behind_last s n) e)
  where
    go : (b d : Bool) → pick b None (pick d None (place_from bytes s.page_size (n - 1))) ≡ placed_at at from
        → place_from bytes s.page_size (n - 1) ≡ placed_at at from
    go true d h = never cc
    go false true h = never cc
    go false false h = h

-- an index and a size of 32 bits each
pub product-fits : {index size : ℕ} → index < 2 ^ 32 → size < 2 ^ 32 → index * size + size < 2 ^ 64
product-fits {index} {size} h k =
    let l : suc index * size ≤ 4294967296 * size = mul-le-mul_right size (omega arith) in
    omega (arith, add-mul index 1 size)

-- the page of a place is as long as its size
pub page-length : (at size : ℕ) (db : List ℕ) → at + size ≤ length db → length (page_at at size db) ≡ size
page-length at size db h = length-take-le size (drop at db) (rw length-drop (omega arith))
