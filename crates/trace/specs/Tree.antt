-- The walk over a table, written down in the order in which it goes. Rows 25 to 28 of docs/READINGS.md, with those of a page and
-- of a cell's numbers.
use Rattle.std.specs.Prelude.{ℕ, zero, suc, ◌+◌, List, ℤ, pos, Err, None, Ok, Option, Result, Some}
use Rattle.answers.specs.declared.Reason.TheVariants as re
use Rattle.answers.specs.declared.Refusal.TheVariants.{OnPage}
use Rattle.answers.specs.declared.Refusal.{Refusal}
use Rattle.reading.specs.declared.Reading.TheVariants.{File as file}
use Rattle.shape.specs.Shape.{shape_of}
use Rattle.site.specs.Site.{of_database}
use Rattle.page.specs.declared.Open.{Open}
use Rattle.keys.specs.Key.{key_of}
use Rattle.order.specs.Order.{placed_in}
use Rattle.trace.specs.declared.State.{State}
use Rattle.trace.specs.declared.Table.TheVariants.{Leaf, Interior}
use Rattle.trace.specs.Walk.{Walk, refused, went, row, page, ◌>>=◌, told}
use Rattle.trace.specs.Table.{table_at, last_child}
use Rattle.trace.specs.declared.Table.{Table}

-- the visits that are left, and what is before all that follows
abbrev pub state : ℕ → Option ℤ → State
state visits low = record { visits = visits; low = low }

-- a page that is due
abbrev pub visit : ℕ → ℕ → Walk ℕ
visit n zero = refused (OnPage n re.VisitsUsedUp)
visit n (suc visits) = page n (went visits)

-- the cells of a leaf from i on, so many: each is a row
unfoldable pub leaf_of : Open → List ℕ → ℤ → ℕ → ℕ → State → Walk State
leaf_of o db most zero i s = went s
leaf_of o db most (suc left) i s = do
  n ← told (placed_in o db most i s.low)
  row (record { page = o.page.number; cell = i; number = key_of n }) (leaf_of o db most left (i + 1) (state s.visits (Some (key_of n))))

-- the cells of an interior page from i on, so many, each with its child, and then the last child; `under` walks a child, whose
-- numbers are at most the key, and all that follows is above the key
unfoldable pub children_of : (ℕ → ℤ → State → Walk State) → Open → List ℕ → ℤ → ℕ → ℕ → State → Walk State
children_of under o db most zero i s = under (last_child o db) most s
children_of under o db most (suc left) i s = do
  n ← told (placed_in o db most i s.low)
  t ← under n.child (key_of n) s
  children_of under o db most left (i + 1) (state t.visits (Some (key_of n)))

abbrev pub cells_of : (ℕ → ℤ → State → Walk State) → List ℕ → ℤ → Result Table Refusal → State → Walk State
cells_of under db most (Err r) s = refused r
cells_of under db most (Ok (Leaf o)) s = leaf_of o db most o.cells 0 s
cells_of under db most (Ok (Interior o)) s = children_of under o db most o.cells 0 s

-- the table under page n, at most so many pages deep, whose numbers are at most `most`
unfoldable pub walk_of : ℕ → List ℕ → ℕ → ℤ → State → Walk State
walk_of zero db n most s = do
  visits ← visit n s.visits
  refused (OnPage n re.TooDeep)
walk_of (suc depth) db n most s = do
  visits ← visit n s.visits
  cells_of (walk_of depth db) db most (table_at n db) (state visits s.low)

-- the table whose root page n is: as many visits as the file has pages
unfoldable pub table_of : ℕ → List ℕ → Walk State
table_of n db = do
  shape ← told (of_database (shape_of file db))
  walk_of 20 db n (pos 9223372036854775807) (state shape.pages None)
