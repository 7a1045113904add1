-- Which page is asked for, and where it lies in the bytes.
--
-- The Rust counts pages from 0, the file format (1.2 "Pages") from 1. A page is there if it lies wholly in the bytes and, in the
-- file reading, is one of those that the file has (`shape`).
use Rattle.std.specs.Prelude.{ℕ, ◌+◌, ◌-◌, ◌*◌, List, Bool, ltb, eqb, take, drop, None, Option, Some}
use Rattle.laws.specs.Pick.{pick}
use Rattle.reading.specs.declared.Reading.{Reading}
use Rattle.reading.specs.declared.Reading.TheVariants.{Old as old, File as file}
use Rattle.place.specs.declared.Page.{Page}
use Rattle.shape.specs.declared.Shape.{Shape}
use Rattle.place.specs.declared.Place.{Place}

-- a page that is there
abbrev pub placed_at : ℕ → ℕ → Option Place
placed_at at from = Some (record { at = at; from = from })

abbrev pub old_page : ℕ → Page
old_page number = record { reading = old; number = number }

abbrev pub file_page : ℕ → Page
file_page number = record { reading = file; number = number }

-- the first page's header stands behind the database's
abbrev pub header_at : ℕ → ℕ
header_at index = pick (eqb index 0) 100 0

-- the page at an index from 0, in so many bytes of pages of that size
abbrev pub place_from : ℕ → ℕ → ℕ → Option Place
place_from bytes size index = pick (ltb bytes (index * size + size)) None (placed_at (index * size) (header_at index))

-- behind the last page that the file has
abbrev pub behind_last : Shape → ℕ → Bool
behind_last shape number = ltb shape.pages number

-- the file format has no page 0, and none behind the last
abbrev pub place_by : Reading → ℕ → Shape → ℕ → Option Place
place_by old bytes shape number = place_from bytes shape.page_size number
place_by file bytes shape number =
    pick (eqb number 0) None (pick (behind_last shape number) None (place_from bytes shape.page_size (number - 1)))

unfoldable pub place_of : Page → ℕ → Shape → Option Place
place_of page bytes shape = place_by page.reading bytes shape page.number

-- the bytes of a page
abbrev pub page_at : ℕ → ℕ → List ℕ → List ℕ
page_at at size db = take size (drop at db)
