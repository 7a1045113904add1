-- THEOREM: of the pages of a file those that are counted as present are there, one behind the other from the first byte on, and
-- no other is.
use Rattle.std.specs.Prelude.{ℕ, suc, ◌*◌, ◌≤◌, ◌<◌, ◌≡◌, List, length, None, Ok}
use Rattle.reading.specs.declared.Reading.{Reading}
use Rattle.reading.specs.declared.Reading.TheVariants.{Old as old, File as file}
use Rattle.place.specs.declared.Page.{Page}
use Rattle.shape.specs.declared.Shape.{Shape}
use Rattle.place.specs.Place.{old_page, file_page, header_at, place_of}
use Rattle.shape.specs.Shape.{shape_of}
use Rattle.place.specs.Place.{placed_at}

-- the page at an index from 0, as each reading counts
abbrev pub page_of : Reading → ℕ → Page
page_of old index = old_page index
page_of file index = file_page (suc index)

abbrev pub CountedAreThere : Type 0
CountedAreThere = (r : Reading) (db : List ℕ) (shape : Shape) → shape_of r db ≡ Ok shape → 0 < shape.page_size
    → (index : ℕ)
    → (index < shape.present → place_of (page_of r index) (length db) shape ≡ placed_at (index * shape.page_size) (header_at index))
    × (shape.present ≤ index → place_of (page_of r index) (length db) shape ≡ None)
