-- THEOREMS: what the guarded reading may be trusted for with a gather buffer lent, of every database, page, cell and room.
use Rattle.std.specs.Prelude.{ℕ, ◌≡◌, List, false, Err, None, Ok, Option, Result, Some}
use Rattle.answers.specs.declared.Fault.TheVariants as fa
use Rattle.answers.specs.declared.Mark.{Mark}
use Rattle.answers.specs.declared.Refusal.{Refusal}
use Rattle.answers.specs.declared.Refusal.TheVariants.{InCell}
use Rattle.kinds.specs.declared.Kind.TheVariants.{LeafTable}
use Rattle.marks.specs.Marks.{mark_of, or_spilled}
use Rattle.place.specs.declared.Page.{Page}
use Rattle.place.specs.Place.{file_page}
use Rattle.site.specs.declared.Site.{Site}
use Rattle.page.specs.declared.Open.{Open}
use Rattle.site.specs.Site.{site_of}
use Rattle.cells.specs.Located.{Located, located_of}
use Rattle.guarded.specs.Guarded as guarded
use Rattle.spilled.specs.Lent.{Lent, whole, gathered, lent_in, lent_of}
use Rattle.spills.specs.Spills.{spills}
use Rattle.marked.specs.Marked as marked

-- a call that is lent a buffer answers what one that is lent none does, but for 18
abbrev pub AsWithNone : Type 0
AsWithNone = (page : Page) (i room : ℕ) (db : List ℕ)
    → ((l : Located) → located_of page i db ≡ Ok l → lent_of page i room db ≡ Ok (whole l))
    × ((refusal : Refusal) → located_of page i db ≡ Err refusal → spills refusal ≡ false → lent_of page i room db ≡ Err refusal)

-- the lowest mark of a cell, of five
abbrev pub lowest_of : Lent → Option Mark
lowest_of (whole l) = mark_of l.cell
lowest_of (gathered c) = Some (or_spilled (mark_of c.cell))

-- y is refused exactly when x is, as x is, or when what x shows has a mark of five, with the lowest; else it is what x shows
abbrev pub Judged : Page → ℕ → Result Lent Refusal → Result Located Refusal → Type 0
Judged page i x y =
    ((refusal : Refusal) → x ≡ Err refusal → y ≡ Err refusal)
    × ((f : Lent) (mark : Mark) → x ≡ Ok f → lowest_of f ≡ Some mark → y ≡ Err (InCell page.number i (fa.Marked mark)))
    × ((l : Located) → x ≡ Ok (whole l) → mark_of l.cell ≡ None → y ≡ Ok l)

-- on a table leaf guarded refuses exactly when file refuses or the record has a mark
abbrev pub GuardedRefuses : Type 0
GuardedRefuses = (number i room : ℕ) (db : List ℕ) (s : Site) → site_of (file_page number) db ≡ Ok s → s.kind ≡ LeafTable
    → Judged (file_page number) i (lent_of (file_page number) i room db) (marked.lent_of number i room db)

-- so of every opened table leaf, whoever opened it or made it up
abbrev pub EveryOpenRefuses : Type 0
EveryOpenRefuses = (o : Open) (i room : ℕ) (db : List ℕ) → o.kind ≡ LeafTable
    → Judged o.page i (lent_in o i room db) (marked.lent_in o i room db)

-- what guarded shows it shows with no buffer too, where old agrees (`GuardedAgrees` of `agreement`), and so does file
abbrev pub GuardedAgrees : Type 0
GuardedAgrees = (number i room : ℕ) (db : List ℕ) (l : Located) → marked.lent_of number i room db ≡ Ok l
    → (guarded.located_of number i db ≡ Ok l) × (lent_of (file_page number) i room db ≡ Ok (whole l))
