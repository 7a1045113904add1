-- Whole pages by a division, and by the bytes of each: the two are one. In the file reading a page is one of those that are
-- counted, too.
use Prim.Native.Nat.{ℕ, suc, min, ◌+◌, ◌*◌, ◌/◌, ◌≤◌, ◌<◌}
use mathlib.Core.Path.{◌≡◌, refl, ◌∙◌}
use mathlib.Core.Bool.{Bool, true, false}
use native.Mathlib.Nat.{le-div_iff_mul-le, div-lt_iff_lt-mul, add-mul}
use native.Mathlib.Omega.{arith}
use lib.Dec.{ltb}
use lib.ListN.{length}
use borrow.Author.Tests.{lt-ltb, le-ltb, ne_eqb, ltb-false}
use Rattle.laws.specs.Pick.{pick}
use Rattle.reading.specs.declared.Reading.TheVariants.{Old as old, File as file}
use Rattle.place.specs.Place.{header_at, place_from}
use Rattle.place.proofs.Laws.{old-placed, file-placed}
use Rattle.shape.specs.Shape.{whole_pages}
use Rattle.page_theorems.specs.Counted.{CountedAreThere}
use Rattle.shape.proofs.Laws.{shape-present, old-pages}
use Rattle.place.specs.Place.{placed_at}
use Rattle.std.specs.Prelude.{None}

module _ (bytes size : ℕ) (some : 0 < size) (index : ℕ) where
  quotient : whole_pages bytes size ≡ bytes / size
  quotient = rw (ne_eqb size 0 (omega arith))

  end_is : suc index * size ≡ index * size + size
  end_is = omega (arith, add-mul index 1 size)

  whole-there : index < whole_pages bytes size → place_from bytes size index ≡ placed_at (index * size) (header_at index)
  whole-there h =
      let d : index < bytes / size = rw quotient at h in
      let l : index * size + size ≤ bytes = rw end_is at ((le-div_iff_mul-le {k = size} {x = suc index} {y = bytes} some).0 d) in
      rw (le-ltb bytes (index * size + size) l)

  whole-absent : whole_pages bytes size ≤ index → place_from bytes size index ≡ None
  whole-absent h =
      let d : bytes / size ≤ index = rw quotient at h in
      let l : bytes < index * size + size = rw end_is at ((div-lt_iff_lt-mul {k = size} {x = bytes} {y = suc index} some).0 (omega arith)) in
      rw (lt-ltb bytes (index * size + size) l)

pub counted-are-there : CountedAreThere
counted-are-there old db shape e some index =
    let size = shape.page_size in
    let whole = whole_pages (length db) size in
    let p : shape.present ≡ whole = omega (arith, shape-present old db e, old-pages db e) in (
      (λ h. old-placed index (length db) shape ∙ whole-there (length db) size some index (omega arith)),
      (λ h. old-placed index (length db) shape ∙ whole-absent (length db) size some index (omega arith)),
    )
counted-are-there file db shape e some index =
    let size = shape.page_size in
    let whole = whole_pages (length db) size in
    let p : shape.present ≡ min shape.pages whole = shape-present file db e in (
      (λ h. rw (file-placed index (length db) shape, le-ltb shape.pages (suc index) (omega arith)) (whole-there (length db) size some index (omega arith))),
      (λ h. file-placed index (length db) shape ∙ go h p (ltb shape.pages (suc index)) refl),
    )
  where
    go : shape.present ≤ index → shape.present ≡ min shape.pages (whole_pages (length db) shape.page_size)
        → (b : Bool) → ltb shape.pages (suc index) ≡ b
        → pick b None (place_from (length db) shape.page_size index) ≡ None
    go h p true d = refl
    go h p false d =
        let l = ltb-false shape.pages (suc index) d in
        whole-absent (length db) shape.page_size some index (omega arith)
