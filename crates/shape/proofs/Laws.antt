-- What callers cite of a shape: that the checks passed, and what it says.
use Prim.Native.Nat.{ℕ, min, ◌≤◌}
use mathlib.Core.Path.{◌≡◌, refl}
use mathlib.Core.List.{List}
use native.Mathlib.Omega.{arith}
use lib.ListN.{length}
use Rattle.laws.proofs.Never.{never}
use Rattle.reading.specs.declared.Reading.{Reading}
use Rattle.reading.specs.declared.Reading.TheVariants.{Old as old, File as file}
use Rattle.answers.specs.declared.Flaw.{Flaw}
use Rattle.header.specs.Header.{page_size_of, checked_of, sizes_in, sizes_of}
use Rattle.header.proofs.Laws.{sizes-shown, sizes-passed, usable-below}
use Rattle.shape.specs.declared.Shape.{Shape}
use Rattle.shape.specs.Shape.{whole_pages, shape_with, shape_by, shape_of}
use Rattle.header.specs.declared.Sizes.{Sizes}
use Rattle.std.specs.Prelude.{Err, Ok, Result}

module _ (r : Reading) (db : List ℕ) where
  abbrev pub shape_in : Shape
  shape_in = shape_with r (whole_pages (length db) (page_size_of db)) (sizes_in r db)

  -- where the checks pass
  pub shape-passed : checked_of r db ≡ Ok tt → shape_of r db ≡ Ok shape_in
  unfolding shape_of
  shape-passed p = rw (sizes-passed r db p)

  pub shape-shown : {s : Shape} → shape_of r db ≡ Ok s → (checked_of r db ≡ Ok tt) × (s ≡ shape_in)
  unfolding shape_of
  shape-shown {s} e = go (sizes_of r db) refl e
    where
      go : (x : Result Sizes Flaw) → sizes_of r db ≡ x → shape_by r (length db) x ≡ Ok s → (checked_of r db ≡ Ok tt) × (s ≡ shape_in)
      go (Err flaw) q d = never cc
      go (Ok sizes) q d =
          let k = sizes-shown r db sizes q in
          let i : s ≡ shape_with r (whole_pages (length db) sizes.page_size) sizes = cc in
          (k.0, rw k.1 at i)

-- where the cells of a page end is in the page
pub end-within : (r : Reading) (db : List ℕ) {s : Shape} → shape_of r db ≡ Ok s → s.end ≤ s.page_size
end-within old db e = rw (shape-shown old db e).1 (omega arith)
end-within file db e = rw (shape-shown file db e).1 (usable-below db)

-- how many of the pages that are counted fit in the bytes
pub shape-present : (r : Reading) (db : List ℕ) {s : Shape} → shape_of r db ≡ Ok s → s.present ≡ min s.pages (whole_pages (length db) s.page_size)
shape-present r db e = rw (shape-shown r db e).1 refl

-- the old reading counts those that fit
pub old-pages : (db : List ℕ) {s : Shape} → shape_of old db ≡ Ok s → s.pages ≡ whole_pages (length db) s.page_size
old-pages db e = rw (shape-shown old db e).1 refl
