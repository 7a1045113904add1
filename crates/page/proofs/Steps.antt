-- A page that is opened, taken apart step by step and put together again: its site, then its pointers.
use Prim.Native.Nat.{ℕ, ◌≤◌}
use mathlib.Core.Path.{◌≡◌, refl, ap}
use mathlib.Core.List.{List}
use mathlib.Core.Bool.{Bool, true, false}
use lib.Dec.{ltb}
use borrow.Author.Tests.{ltb-false, le-ltb}
use Rattle.laws.specs.Pick.{pick}
use Rattle.laws.proofs.Never.{never}
use Rattle.reading.specs.declared.Reading.TheVariants.{File as file}
use Rattle.answers.specs.declared.Reason.TheVariants as re
use Rattle.answers.specs.declared.Refusal.{Refusal}
use Rattle.answers.specs.Answer.{◌>>=◌}
use Rattle.place.specs.declared.Page.{Page}
use Rattle.place.specs.Place.{file_page}
use Rattle.site.specs.declared.Site.{Site}
use Rattle.site.specs.Site.{on_page, site_of}
use Rattle.site.proofs.Sites.{sited, site-there, site-end}
use Rattle.page.specs.declared.Open.{Open}
use Rattle.page.specs.Head.{pointers_end}
use Rattle.page.specs.Open.{cells_of, open_with, open_from, open_of}
use Rattle.page.proofs.Opened.{Opened}
use Rattle.std.specs.Prelude.{Err, Ok, Result}

-- THE SECOND STEP

pub record Opening (s : Site) (db : List ℕ) (o : Open) : Type 0 where
  pub is : o ≡ open_with s (cells_of s db)
  pub pointers : pointers_end s.from s.kind (cells_of s db) ≤ s.end

pub opening : (s : Site) (db : List ℕ) {o : Open} → open_from s db ≡ Ok o → Opening s db o
unfolding open_from
opening s db {o} e = go (ltb s.end (pointers_end s.from s.kind (cells_of s db))) refl e
  where
    go : (b : Bool) → ltb s.end (pointers_end s.from s.kind (cells_of s db)) ≡ b
        → pick b (on_page s.page re.PointersPassEnd) (Ok (open_with s (cells_of s db))) ≡ Ok o → Opening s db o
    go true t d = never cc
    go false t d = record { is = cc; pointers = ltb-false s.end (pointers_end s.from s.kind (cells_of s db)) t }

pub open-again : (s : Site) (db : List ℕ) → pointers_end s.from s.kind (cells_of s db) ≤ s.end → open_from s db ≡ Ok (open_with s (cells_of s db))
unfolding open_from
open-again s db h = rw (le-ltb s.end (pointers_end s.from s.kind (cells_of s db)) h)

-- BOTH

pub open-site : (page : Page) (db : List ℕ) {s : Site} → site_of page db ≡ Ok s → open_of page db ≡ open_from s db
unfolding open_of
open-site page db e = rw e

pub record Steps (page : Page) (db : List ℕ) (o : Open) : Type 0 where
  pub site : Site
  pub first : site_of page db ≡ Ok site
  pub second : open_from site db ≡ Ok o

module _ (page : Page) (db : List ℕ) {o : Open} (e : open_of page db ≡ Ok o) where
  pub steps : Steps page db o
  unfolding open_of
  steps = go (site_of page db) refl e
    where
      go : (x : Result Site Refusal) → site_of page db ≡ x → (x >>= (λ s. open_from s db)) ≡ Ok o → Steps page db o
      go (Err refusal) q d = never cc
      go (Ok s) q d = record { site = s; first = q; second = d }

  pub open-page : o.page ≡ page
  open-page = rw (opening steps.site db steps.second).is (sited page db steps.first).named

  pub open-fits : Opened o db
  open-fits =
      let is = sited page db steps.first in
      let f = opening steps.site db steps.second in
      rw f.is (record { there = site-there page db is; short = site-end page db is; pointers = f.pointers })

-- a page of the file reading is opened in it
pub open-file : (number : ℕ) (db : List ℕ) {o : Open} → open_of (file_page number) db ≡ Ok o → o.page.reading ≡ file
open-file number db e = ap (λ (p : Page). p.reading) (open-page (file_page number) db e)
