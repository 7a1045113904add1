-- What is so of every walk over a table, of one that is refused up to where it is refused.
use Rattle.std.specs.Prelude.{ℕ, ◌≤◌, ◌<◌, ◌≡◌, List, [], ◌∷◌, ◌⊎◌, ℤ, pos, ◌≤ℤ◌, ◌<ℤ◌, length, None, Ok, Option, Some}
use Rattle.reading.specs.declared.Reading.TheVariants.{File as file}
use Rattle.kinds.specs.declared.Kind.TheVariants.{LeafTable}
use Rattle.shape.specs.declared.Shape.{Shape}
use Rattle.shape.specs.Shape.{shape_of}
use Rattle.place.specs.Place.{file_page}
use Rattle.page.specs.declared.Open.{Open}
use Rattle.page.specs.Open.{open_of}
use Rattle.cells.specs.Located.{Located, row_number, located_of}
use Rattle.keys.specs.Key.{key_in}
use Rattle.trace.specs.Walk.{Row, Walk, refused, went, row, page, rows_of, pages_of}
use Rattle.trace.specs.Tree.{table_of}
use Rattle.walk.specs.Counted.{count_of}
use Rattle.standing.specs.Rows.{all_rows}

-- THEOREM: row numbers rise strictly

abbrev pub Over : Option ℤ → ℤ → Type 0
Over None x = Unit
Over (Some last) x = last <ℤ x

abbrev pub Rising : Option ℤ → ℤ → List Row → Type 0
Rising low most [] = Unit
Rising low most (r ∷ rows) = (r.number ≤ℤ most) × Over low r.number × Rising (Some r.number) most rows

abbrev pub Rises : Type 0
Rises = (n : ℕ) (db : List ℕ) → Rising None (pos 9223372036854775807) (rows_of (table_of n db))

-- THEOREM: each row is a cell of a table leaf that lies in the file, under the number that the file reading shows of it

pub record Cell (db : List ℕ) (r : Row) : Type 0 where
  pub o : Open
  pub there : open_of (file_page r.page) db ≡ Ok o
  pub leaf : o.kind ≡ LeafTable
  pub inside : r.cell < o.cells
  pub read : key_in o r.cell db ≡ Ok r.number
  pub shows : (l : Located) → located_of (file_page r.page) r.cell db ≡ Ok l → row_number l.cell.row.value ≡ r.number

abbrev pub Each : (Row → Type 0) → List Row → Type 0
Each P [] = Unit
Each P (r ∷ rows) = P r × Each P rows

abbrev pub AreCells : Type 0
AreCells = (n : ℕ) (db : List ℕ) → Each (Cell db) (rows_of (table_of n db))

-- THEOREM: no place is listed twice

abbrev pub Apart : Row → Row → Type 0
Apart r q = r.page ≡ q.page → r.cell ≡ q.cell → ⊥

abbrev pub Once : List Row → Type 0
Once [] = Unit
Once (r ∷ rows) = Each (Apart r) rows × Once rows

abbrev pub ListedOnce : Type 0
ListedOnce = (n : ℕ) (db : List ℕ) → Once (rows_of (table_of n db))

-- THEOREM: no more pages are visited than the file has

abbrev pub VisitsEnd : Type 0
VisitsEnd = (n : ℕ) (db : List ℕ) (shape : Shape) → shape_of file db ≡ Ok shape → length (pages_of (table_of n db)) ≤ shape.pages

-- THEOREM: an accepted walk has every row that stands in the table

abbrev pub EveryRow : Type 0
EveryRow = (n : ℕ) (db : List ℕ) (m : ℕ) → count_of n db ≡ Ok m → rows_of (table_of n db) ≡ all_rows 20 db n

-- THEOREM: of a table that is accepted every cell of every leaf that is visited is listed

-- a walk that is not refused
abbrev pub Accepted : {A : Type 0} → Walk A → Type 0
Accepted (refused r) = ⊥
Accepted (went a) = Unit
Accepted (row r w) = Accepted w
Accepted (page n w) = Accepted w

abbrev pub Visited : ℕ → List ℕ → Type 0
Visited n [] = ⊥
Visited n (p ∷ pages) = (p ≡ n) ⊎ Visited n pages

abbrev pub Listed : ℕ → ℕ → List Row → Type 0
Listed n i [] = ⊥
Listed n i (r ∷ rows) = ((r.page ≡ n) × (r.cell ≡ i)) ⊎ Listed n i rows

abbrev pub EveryCell : Type 0
EveryCell = (n : ℕ) (db : List ℕ) → Accepted (table_of n db) → (p : ℕ) → Visited p (pages_of (table_of n db))
    → (o : Open) → open_of (file_page p) db ≡ Ok o → o.kind ≡ LeafTable → (i : ℕ) → i < o.cells → Listed p i (rows_of (table_of n db))
