-- Where a page lies, and its kind. The checks are the rows 8 to 10 of docs/READINGS.md, behind those of the header, in their
-- order.
use Rattle.std.specs.Prelude.{ℕ, List, ltb, length, Err, None, Ok, Option, Result, Some}
use Rattle.laws.specs.Pick.{pick}
use Rattle.answers.specs.declared.Flaw.{Flaw}
use Rattle.answers.specs.declared.Reason.{Reason}
use Rattle.answers.specs.declared.Reason.TheVariants as re
use Rattle.answers.specs.declared.Refusal.{Refusal}
use Rattle.answers.specs.declared.Refusal.TheVariants.{OfDatabase, OnPage}
use Rattle.answers.specs.Answer.{◌>>=◌}
use Rattle.kinds.specs.declared.Kind.{Kind}
use Rattle.place.specs.declared.Page.{Page}
use Rattle.shape.specs.declared.Shape.{Shape}
use Rattle.place.specs.Place.{place_of, page_at}
use Rattle.shape.specs.Shape.{shape_of}
use Rattle.site.specs.declared.Site.{Site}
use Rattle.site.specs.Kinds.{kind_at}
use Rattle.place.specs.declared.Place.{Place}

-- refused on a page
abbrev pub on_page : {A : Type 0} → Page → Reason → Result A Refusal
on_page page reason = Err (OnPage page.number reason)

-- what is wrong with the database is so for each of its pages
abbrev pub of_database : {A : Type 0} → Result A Flaw → Result A Refusal
of_database (Err flaw) = Err (OfDatabase flaw)
of_database (Ok a) = Ok a

abbrev pub kind_for : Page → Option Kind → Result Kind Refusal
kind_for page None = on_page page re.KindUnfit
kind_for page (Some k) = Ok k

-- the page at a place, in pages of that shape
abbrev pub site_from : Page → Shape → Option Place → List ℕ → Result Site Refusal
site_from page shape None db = on_page page re.PageAbsent
site_from page shape (Some place) db =
    pick (ltb shape.page_size place.from) (on_page page re.RootTooSmall)
    (kind_for page (kind_at place.from (page_at place.at shape.page_size db))
    >>= (λ k. Ok (record { page = page; at = place.at; size = shape.page_size; end = shape.end; from = place.from; kind = k })))

unfoldable pub site_of : Page → List ℕ → Result Site Refusal
site_of page db = do
  shape ← of_database (shape_of page.reading db)
  site_from page shape (place_of page (length db) shape) db
