-- The site of a page, taken apart step by step and put together again: its shape, its place, its kind.
use Prim.Native.Nat.{ℕ, ◌+◌, ◌≤◌}
use mathlib.Core.Path.{◌≡◌, refl, sym}
use mathlib.Core.List.{List}
use mathlib.Core.Bool.{Bool, true, false}
use lib.Dec.{ltb}
use lib.ListN.{length}
use borrow.Author.Tests.{ltb-false, le-ltb}
use Rattle.laws.specs.Pick.{pick}
use Rattle.laws.proofs.Never.{never}
use Rattle.answers.specs.declared.Flaw.{Flaw}
use Rattle.answers.specs.declared.Reason.TheVariants as re
use Rattle.answers.specs.Answer.{◌>>=◌}
use Rattle.place.specs.declared.Page.{Page}
use Rattle.shape.specs.declared.Shape.{Shape}
use Rattle.place.specs.Place.{place_of, page_at}
use Rattle.shape.specs.Shape.{shape_of}
use Rattle.place.proofs.Laws.{place-lies}
use Rattle.shape.proofs.Laws.{end-within}
use Rattle.site.specs.declared.Site.{Site}
use Rattle.site.specs.Kinds.{kind_at}
use Rattle.site.specs.Site.{on_page, of_database, kind_for, site_from, site_of}
use Rattle.kinds.specs.declared.Kind.{Kind}
use Rattle.place.specs.Place.{placed_at}
use Rattle.place.specs.declared.Place.{Place}
use Rattle.std.specs.Prelude.{Err, None, Ok, Option, Result, Some}

-- a site is its page's, at the place and of the kind that the bytes say, in pages of their shape
pub record Sited (page : Page) (db : List ℕ) (s : Site) : Type 0 where
  pub shape : Shape
  pub shaped : shape_of page.reading db ≡ Ok shape
  pub named : s.page ≡ page
  pub sized : s.size ≡ shape.page_size
  pub ended : s.end ≡ shape.end
  pub placed : place_of page (length db) shape ≡ placed_at s.at s.from
  pub header : s.from ≤ shape.page_size
  pub kinded : kind_at s.from (page_at s.at shape.page_size db) ≡ Some s.kind

module _ (page : Page) (db : List ℕ) {s : Site} where
  module _ (shape : Shape) (q : shape_of page.reading db ≡ Ok shape) where
    by_kind : (at from : ℕ) → place_of page (length db) shape ≡ placed_at at from → from ≤ shape.page_size
        → (ka : Option Kind) → kind_at from (page_at at shape.page_size db) ≡ ka
        → (kind_for page ka >>= (λ k. Ok (record { page = page; at = at; size = shape.page_size; end = shape.end; from = from; kind = k }))) ≡ Ok s
        → Sited page db s
    by_kind at from p h None i e = never cc
    by_kind at from p h (Some k) i e =
        let f : s ≡ record { page = page; at = at; size = shape.page_size; end = shape.end; from = from; kind = k } = cc in
        rw f (record { shape = shape; shaped = q; named = refl; sized = refl; ended = refl; placed = p; header = h; kinded = i })

    by_place : (p : Option Place) → place_of page (length db) shape ≡ p → site_from page shape p db ≡ Ok s → Sited page db s
    by_place None i e = never cc
    by_place (Some place) i e = go (ltb shape.page_size place.from) refl e
      where
        go : (b : Bool) → ltb shape.page_size place.from ≡ b
            → pick b (on_page page re.RootTooSmall) (kind_for page (kind_at place.from (page_at place.at shape.page_size db)) >>= (λ k. Ok (record { page = page; at = place.at; size = shape.page_size; end = shape.end; from = place.from; kind = k }))) ≡ Ok s
            → Sited page db s
        go true t d = never cc
        go false t d = by_kind place.at place.from i (ltb-false shape.page_size place.from t) (kind_at place.from (page_at place.at shape.page_size db)) refl d

  pub sited : site_of page db ≡ Ok s → Sited page db s
  unfolding site_of
  sited e = go (shape_of page.reading db) refl e
    where
      go : (x : Result Shape Flaw) → shape_of page.reading db ≡ x
          → (of_database x >>= (λ shape. site_from page shape (place_of page (length db) shape) db)) ≡ Ok s → Sited page db s
      go (Err flaw) q d = never cc
      go (Ok shape) q d = by_place shape q (place_of page (length db) shape) refl d

  pub site-again : Sited page db s → site_of page db ≡ Ok s
  unfolding site_of
  site-again is =
      rw (is.shaped, is.placed, le-ltb is.shape.page_size s.from is.header, is.kinded, sym is.named, sym is.sized, sym is.ended)

-- it lies in the bytes, and its cells end in it
module _ (page : Page) (db : List ℕ) {s : Site} (is : Sited page db s) where
  pub site-there : s.at + s.size ≤ length db
  site-there = rw is.sized (rw is.placed at (place-lies page (length db) is.shape)).0

  pub site-end : s.end ≤ s.size
  site-end = rw (is.sized, is.ended) (end-within page.reading db is.shaped)
