-- The pages of a table: a leaf, or an interior page with its children.
use Rattle.std.specs.Prelude.{ℕ, List, eqb, drop, Err, Ok, Result}
use Rattle.laws.specs.Pick.{pick}
use Rattle.answers.specs.declared.Reason.{Reason}
use Rattle.answers.specs.declared.Reason.TheVariants as re
use Rattle.answers.specs.declared.Refusal.{Refusal}
use Rattle.answers.specs.declared.Refusal.TheVariants.{OnPage}
use Rattle.kinds.specs.declared.Kind.{Kind}
use Rattle.kinds.specs.declared.Kind.TheVariants.{InteriorIndex, InteriorTable, LeafIndex, LeafTable}
use Rattle.place.specs.Place.{file_page, page_at}
use Rattle.page.specs.declared.Open.{Open}
use Rattle.page.specs.Open.{open_of, rightmost_of}
use Rattle.trace.specs.declared.Table.TheVariants.{Leaf, Interior}
use Rattle.trace.specs.declared.Table.{Table}

abbrev pub no_table : ℕ → Reason → Result Table Refusal
no_table n reason = Err (OnPage n reason)

-- an opened page by its kind: an index page is none of a table
abbrev pub table_by : Kind → Open → Result Table Refusal
table_by InteriorIndex o = no_table o.page.number re.IndexPage
table_by InteriorTable o = Ok (Interior o)
table_by LeafIndex o = no_table o.page.number re.IndexPage
table_by LeafTable o = Ok (Leaf o)

abbrev pub table_for : Result Open Refusal → Result Table Refusal
table_for (Err r) = Err r
table_for (Ok o) = table_by o.kind o

-- page n of the file reading
unfoldable pub table_at : ℕ → List ℕ → Result Table Refusal
table_at n db = table_for (open_of (file_page n) db)

-- page n, where so many visits are left and it may be so deep
unfoldable pub entered : ℕ → ℕ → ℕ → List ℕ → Result Table Refusal
entered depth visits n db =
    pick (eqb visits 0) (no_table n re.VisitsUsedUp) (pick (eqb depth 0) (no_table n re.TooDeep) (table_at n db))

-- the last child of an interior page
abbrev pub last_child : Open → List ℕ → ℕ
last_child o db = rightmost_of o (drop o.from (page_at o.at o.size db))
