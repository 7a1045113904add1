-- The rows that stand in a table, with no check of it.
use Rattle.std.specs.Prelude.{ℕ, zero, suc, ◌+◌, List, [], ◌∷◌, ◌++◌, ℤ, pos, Err, Ok, Result}
use Rattle.answers.specs.declared.Refusal.{Refusal}
use Rattle.cell.specs.declared.Numbers.{Numbers}
use Rattle.page.specs.declared.Open.{Open}
use Rattle.cells.specs.Numbered.{numbers_in}
use Rattle.keys.specs.Key.{key_in}
use Rattle.trace.specs.declared.Table.TheVariants.{Leaf, Interior}
use Rattle.trace.specs.Walk.{Row}
use Rattle.trace.specs.Table.{table_at, last_child}
use Rattle.trace.specs.declared.Table.{Table}

-- 0 for what is not there
abbrev pub number_by : Result ℤ Refusal → ℤ
number_by (Err r) = pos 0
number_by (Ok x) = x

abbrev pub child_by : Result Numbers Refusal → ℕ
child_by (Err r) = 0
child_by (Ok n) = n.child

abbrev pub row_at : Open → List ℕ → ℕ → Row
row_at o db i = record { page = o.page.number; cell = i; number = number_by (key_in o i db) }

-- the cells of a leaf from i on, so many
unfoldable pub leaf_rows : Open → List ℕ → ℕ → ℕ → List Row
leaf_rows o db zero i = []
leaf_rows o db (suc left) i = row_at o db i ∷ leaf_rows o db left (i + 1)

-- the children of an interior page from i on, so many, and then the last one; `under` has the rows of a child
unfoldable pub child_rows : (ℕ → List Row) → Open → List ℕ → ℕ → ℕ → List Row
child_rows under o db zero i = under (last_child o db)
child_rows under o db (suc left) i = under (child_by (numbers_in o i db)) ++ child_rows under o db left (i + 1)

abbrev pub page_rows : (ℕ → List Row) → List ℕ → Result Table Refusal → List Row
page_rows under db (Err r) = []
page_rows under db (Ok (Leaf o)) = leaf_rows o db o.cells 0
page_rows under db (Ok (Interior o)) = child_rows under o db o.cells 0

-- under page n, at most so many pages deep
unfoldable pub all_rows : ℕ → List ℕ → ℕ → List Row
all_rows zero db n = []
all_rows (suc depth) db n = page_rows (all_rows depth db) db (table_at n db)
