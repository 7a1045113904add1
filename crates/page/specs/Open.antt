-- A page that is opened: behind its place and kind its cells, and where its pointers end. The check is the row 11 of
-- docs/READINGS.md, behind those of the site.
use Rattle.std.specs.Prelude.{ℕ, ◌+◌, List, Bool, false, ltb, leb, drop, Ok, Result}
use Rattle.laws.specs.Pick.{pick}
use Rattle.fields.specs.Fields.{unsigned}
use Rattle.answers.specs.declared.Reason.TheVariants as re
use Rattle.answers.specs.declared.Refusal.{Refusal}
use Rattle.answers.specs.Answer.{◌>>=◌}
use Rattle.kinds.specs.Kind.{interior}
use Rattle.place.specs.declared.Page.{Page}
use Rattle.place.specs.Place.{page_at}
use Rattle.site.specs.declared.Site.{Site}
use Rattle.site.specs.Site.{on_page, site_of}
use Rattle.page.specs.declared.Open.{Open}
use Rattle.page.specs.Head.{cells_at, pointers_end}

-- how many cells a page says that it has
abbrev pub cells_of : Site → List ℕ → ℕ
cells_of s db = cells_at s.from (page_at s.at s.size db)

abbrev pub open_with : Site → ℕ → Open
open_with s cells =
    record { page = s.page; at = s.at; size = s.size; end = s.end; from = s.from; kind = s.kind; cells = cells }

unfoldable pub open_from : Site → List ℕ → Result Open Refusal
open_from s db =
    pick (ltb s.end (pointers_end s.from s.kind (cells_of s db))) (on_page s.page re.PointersPassEnd)
    (Ok (open_with s (cells_of s db)))

unfoldable pub open_of : Page → List ℕ → Result Open Refusal
open_of page db = do
  site ← site_of page db
  open_from site db

-- the last child of an interior page, from the bytes of its header on
abbrev pub rightmost_of : Open → List ℕ → ℕ
rightmost_of o header = pick (interior o.kind) (unsigned 4 (drop 8 header)) 0

-- A PAGE THAT IS OPEN ALREADY

-- whether it lies in so many bytes, and its pointers before its end: so of each that `open_of` shows of them
abbrev pub lies_in : ℕ → Open → Bool
lies_in bytes o =
    pick (ltb bytes (o.at + o.size)) false
    (pick (ltb o.size o.end) false (leb (pointers_end o.from o.kind o.cells) o.end))
