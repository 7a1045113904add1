-- The theorems of specs/Agreement.antt: along the cursor of a cell are its columns, and a run stores one after another.
use Prim.Native.Nat.{ℕ, ◌+◌, ◌≤◌, ◌<◌}
use mathlib.Core.Path.{◌≡◌, refl, sym, ap, ◌∙◌}
use mathlib.Core.List.{List}
use mathlib.Core.Bool.{Bool, true, false}
use lib.Dec.{ltb}
use lib.IntN.{ℤ}
use lib.ListN.{length, drop}
use Rattle.laws.specs.Pick.{pick}
use Rattle.laws.proofs.Never.{never}
use Rattle.reading.specs.declared.Reading.{Reading}
use Rattle.reading.specs.declared.Reading.TheVariants.{File as file}
use Rattle.answers.specs.declared.Fault.{Fault}
use Rattle.answers.specs.declared.Fault.TheVariants as fa
use Rattle.answers.specs.declared.Reason.TheVariants as re
use Rattle.answers.specs.declared.Refusal.{Refusal}
use Rattle.answers.specs.declared.Refusal.TheVariants.{OfDatabase, OnPage, InCell}
use Rattle.answers.specs.Answer.{◌>>=◌}
use Rattle.varint.specs.declared.Number.{Number}
use Rattle.record.specs.Types.{count}
use Rattle.record.specs.Record.{values_at}
use Rattle.cell.specs.declared.Numbers.{Numbers}
use Rattle.columns.proofs.Extents.{found_none}
use Rattle.place.specs.declared.Page.{Page}
use Rattle.place.specs.Place.{file_page}
use Rattle.page.specs.declared.Open.{Open}
use Rattle.page.proofs.Steps.{open-page, open-file}
use Rattle.cells.specs.Located.{Located, row_number, located_in, located_of}
use Rattle.cells.specs.Numbered.{numbers_in}
use Rattle.cells.proofs.Laws.{held, located-open}
use Rattle.row.specs.Found.{payload_from, cursor_in, found_by}
use Rattle.row.specs.Column.{slot_then, column_by}
use Rattle.row_values.specs.File.{shown_by}
use Rattle.row.proofs.Placed.{placed-in, column-along}
use Rattle.guarded.proofs.Guard.{leaf-opened, guarded-in, guarded-open}
use Rattle.spills.specs.declared.Source.TheVariants.{Database, Buffer}
use Rattle.spilled.specs.Lent.{Spilled, Lent, whole, gathered, lent_of, cursor_over}
use Rattle.spills.specs.Spills.{spills_as, spills}
use Rattle.spilled.specs.Values as file-values
use Rattle.spilled.specs.Values.{column_in, from}
use Rattle.marked.specs.Marked as marked
use Rattle.spilled.proofs.Got.{lent-located, lent-got, lent-told, lent-open}
use Rattle.spilled.proofs.Values.{column-gathered, value_found}
use Rattle.marked.proofs.Guarded.{lent-guarded, marked-open, marked-value}
use Rattle.judged.proofs.Agreement.{as-with-none}
use Rattle.turns.specs.Refusals.{accepted, refused_by}
use Rattle.row_head.specs.Head.{shortest_by}
use Rattle.turns.specs.Rows.{cell_by}
use Rattle.sources.specs.Lent.{lent_shown}
use Rattle.turns.specs.Words.{words_of, value_at}
use Rattle.run.specs.Run.{run_from}
use Rattle.checked.proofs.Laws.{whole-found}
use Rattle.filled.proofs.Counted.{whole-count}
use Rattle.run.proofs.Places.{five_at, words_in, place-holds, over-run}
use Rattle.gathered.specs.Rows.{lent_in, row_lent, table_lent}
use Rattle.checked.proofs.Found.{in_place}
use Rattle.gathered.proofs.Found.{spilled-whole}
use Rattle.long_rows.specs.Agreement.{opened_by, value_by, cell_in, columns_of, RowShows, AsManyAsFit, NoneBehind, RefusedAlike, SameCell, CellsAgree}
use Rattle.columns.specs.declared.Slot.{Slot}
use Rattle.spilled.specs.declared.ValueIn.{ValueIn}
use Rattle.std.specs.Prelude.{Err, Ok, Result}

-- WHAT IS OPENED AND FOUND

-- a page of either reading is one of the file
page-is : (g : Bool) (number : ℕ) (db : List ℕ) {o : Open} → opened_by g number db ≡ Ok o → o.page ≡ file_page number
page-is true number db e = open-page (file_page number) db (leaf-opened number db e).0
page-is false number db e = open-page (file_page number) db e

reading-is : (g : Bool) (number : ℕ) (db : List ℕ) {o : Open} → opened_by g number db ≡ Ok o → o.page.reading ≡ file
reading-is true number db e = open-file number db (leaf-opened number db e).0
reading-is false number db e = open-file number db e

-- what the guarded reading shows is a cell on its page
by-marked : (P : Lent → Type 0) (o : Open) (i room : ℕ) (db : List ℕ) {f : Lent} → lent_in true o i room db ≡ Ok f
    → ((l : Located) → marked.lent_in o i room db ≡ Ok l → P (whole l)) → P f
by-marked P o i room db {f} e shows = go (marked.lent_in o i room db) refl e
  where
    go : (x : Result Located Refusal) → marked.lent_in o i room db ≡ x → (x >>= (λ l. Ok (whole l))) ≡ Ok f → P f
    go (Err refusal) q d = never cc
    go (Ok l) q d = let w : whole l ≡ f = cc in rw (← w) (shows l q)

marked-located : (o : Open) (i room : ℕ) (db : List ℕ) {l : Located} → marked.lent_in o i room db ≡ Ok l → located_in o i db ≡ Ok l
marked-located o i room db q = (guarded-in o i db (lent-guarded i room db o q)).located

-- the call on a column of it
module _ (number i k : ℕ) (db b : List ℕ) {o : Open} where
  file-value : opened_by false number db ≡ Ok o → {x : Result Lent Refusal} → lent_in false o i (length b) db ≡ x
      → value_by false number i k (length b) db ≡ file-values.value_by k db x
  file-value op e = value_found number i k (length b) db (lent-open (file_page number) i (length b) db op ∙ e)

  guarded-value : opened_by true number db ≡ Ok o → {x : Result Located Refusal} → marked.lent_in o i (length b) db ≡ x
      → value_by true number i k (length b) db ≡ from Database (shown_by db (column_by k x))
  guarded-value op e = marked-value number i k (length b) db (marked-open number i (length b) db op ∙ e)

-- ITS VALUES

-- what is said of a place
abbrev Shows : ℕ → ℕ → List ℕ → List ℤ → Lent → Result ValueIn Refusal → Type 0
Shows k places db table f value =
    ((lent_shown value).refused ≡ accepted)
    × ((lent_shown value).source ≡ (row_lent places db (Ok f)).source)
    × (five_at k (table_lent places db (Ok f) table) ≡ words_of (lent_shown value).value)

-- a cell on its page, in the file reading
whole-shows : (o : Open) (i k places : ℕ) (db : List ℕ) (table : List ℤ) (l : Located) → located_in o i db ≡ Ok l → o.page.reading ≡ file
    → k < count l.cell.types → k < places → Shows k places db table (whole l) (from Database (shown_by db (column_by k (Ok l))))
whole-shows o i k places db table l e r m room =
    let h = whole-found (cursor_in l) (count l.cell.types) db (in_place o i db e) k m in
    let q = sym (column-along k l db (placed-in o i db e)) ∙ ap (slot_then l.opened.page) h.is in
    let n : l.opened.page.reading ≡ file = ap (λ (p : Open). p.page.reading) (held o i db e).opened ∙ r in
    let s = place-holds k places (cursor_in l) db (drop (length (words_in (run_from places (cursor_in l) db))) table) room h.is in
    let w = ap (λ (x : Reading). words_of (value_at x h.t h.at db)) n in
    rw (q, over-run (run_from places (cursor_in l) db) table) (refl, refl, s ∙ w)

-- a spilled one
spilled-shows : (o : Open) (i k places : ℕ) (db b : List ℕ) (table : List ℤ) (c : Spilled) → lent_in false o i (length b) db ≡ Ok (gathered c)
    → k < count c.cell.types → k < places → Shows k places db table (gathered c) (from Buffer (shown_by c.payload (column_in k c)))
spilled-shows o i k places db b table c e m room =
    let g = lent-got o i db b e in
    let h = whole-found (cursor_over c.cell) (count c.cell.types) c.payload (spilled-whole c g.held g.size) k m in
    let q = sym (column-gathered k c g.size g.held) ∙ ap (slot_then c.page) h.is in
    let s = place-holds k places (cursor_over c.cell) c.payload (drop (length (words_in (run_from places (cursor_over c.cell) c.payload))) table) room h.is in
    rw (q, over-run (run_from places (cursor_over c.cell) c.payload) table) (refl, refl, s)

pub row_shows : RowShows
row_shows false number i places db b table o (whole l) op e k m room =
    rw (file-value number i k db b op e) (whole-shows o i k places db table l (lent-located o i db b (length b) e) (reading-is false number db op) m room)
row_shows false number i places db b table o (gathered c) op e k m room =
    rw (file-value number i k db b op e) (spilled-shows o i k places db b table c e m room)
row_shows true number i places db b table o f op e k m room =
    by-marked (λ (y : Lent). k < columns_of y → Shows k places db table y (value_by true number i k (length b) db)) o i (length b) db e
    (λ l q n. rw (guarded-value number i k db b op q) (whole-shows o i k places db table l (marked-located o i (length b) db q) (reading-is true number db op) n room)) m

-- HOW MANY

pub as-many-as-fit : AsManyAsFit
as-many-as-fit false i places db b o (whole l) e =
    whole-count places (cursor_in l) (count l.cell.types) db (in_place o i db (lent-located o i db b (length b) e))
as-many-as-fit false i places db b o (gathered c) e =
    let g = lent-got o i db b e in
    whole-count places (cursor_over c.cell) (count c.cell.types) c.payload (spilled-whole c g.held g.size)
as-many-as-fit true i places db b o f e =
    by-marked (λ (y : Lent). (row_lent places db (Ok y)).row.count ≡ pick (ltb (columns_of y) places) (columns_of y) places) o i (length b) db e
    (λ l q. whole-count places (cursor_in l) (count l.cell.types) db (in_place o i db (marked-located o i (length b) db q)))

-- NONE BEHIND

abbrev Absent : ℕ → Result ValueIn Refusal → Type 0
Absent number value = value ≡ Err (OnPage number re.NoSuchColumn)

whole-none : (o : Open) (i k number : ℕ) (db : List ℕ) (l : Located) → located_in o i db ≡ Ok l → o.page ≡ file_page number
    → count l.cell.types ≤ k → Absent number (from Database (shown_by db (column_by k (Ok l))))
whole-none o i k number db l e p m =
    let s = found_none k (payload_from l + values_at l.opened.page.reading l.cell.header) (payload_from l + l.cell.payload) l.cell.types m in
    let n : l.opened.page ≡ file_page number = ap (λ (q : Open). q.page) (held o i db e).opened ∙ p in
    ap (λ (z : Result Slot Refusal). from Database (shown_by db z)) (ap (slot_then l.opened.page) s)
    ∙ ap (λ (z : Page). Err (OnPage z.number re.NoSuchColumn)) n

spilled-none : (o : Open) (i k number room : ℕ) (db : List ℕ) (c : Spilled) → lent_in false o i room db ≡ Ok (gathered c) → o.page ≡ file_page number
    → count c.cell.types ≤ k → Absent number (from Buffer (shown_by c.payload (column_in k c)))
spilled-none o i k number room db c e p m =
    let s = found_none k (values_at file c.cell.header) c.cell.payload c.cell.types m in
    ap (λ (z : Result Slot Refusal). from Buffer (shown_by c.payload z)) (ap (slot_then c.page) s)
    ∙ ap (λ (z : Page). Err (OnPage z.number re.NoSuchColumn)) ((lent-told o i room db e).page ∙ p)

pub none-behind : NoneBehind
none-behind false number i places db b o (whole l) op e k m =
    file-value number i k db b op e ∙ whole-none o i k number db l (lent-located o i db b (length b) e) (page-is false number db op) m
none-behind false number i places db b o (gathered c) op e k m =
    file-value number i k db b op e ∙ spilled-none o i k number (length b) db c e (page-is false number db op) m
none-behind true number i places db b o f op e k m =
    by-marked (λ (y : Lent). (row_lent places db (Ok y)).row.columns ≤ k → Absent number (value_by true number i k (length b) db)) o i (length b) db e
    (λ l q n. guarded-value number i k db b op q ∙ whole-none o i k number db l (marked-located o i (length b) db q) (page-is true number db op) n) m

-- REFUSED

refused-alike-by : (places : ℕ) (db : List ℕ) (refusal : Refusal) {value : Result ValueIn Refusal} → value ≡ Err refusal
    → (value ≡ Err refusal) × ((row_lent places db (Err refusal)).row.refused ≡ (lent_shown value).refused)
refused-alike-by places db refusal e = (e, rw e)

pub refused-alike : RefusedAlike
refused-alike false number i places db b o refusal op e k = refused-alike-by places db refusal (file-value number i k db b op e)
refused-alike true number i places db b o refusal op e k = go (marked.lent_in o i (length b) db) refl e
  where
    go : (x : Result Located Refusal) → marked.lent_in o i (length b) db ≡ x → (x >>= (λ l. Ok (whole l))) ≡ Err refusal
        → (value_by true number i k (length b) db ≡ Err refusal)
        × ((row_lent places db (Err refusal)).row.refused ≡ (lent_shown (value_by true number i k (length b) db)).refused)
    go (Ok l) q d = never cc
    go (Err other) q d =
        let w : other ≡ refusal = cc in
        refused-alike-by places db refusal (guarded-value number i k db b op q ∙ ap Err w)

-- ITS CELL

-- on its page
whole-cell : (places : ℕ) (db : List ℕ) (x : Result Located Refusal) (l : Located) (n : Result Numbers Refusal) → x ≡ Ok l
    → SameCell (whole l) (row_lent places db (Ok (whole l))) (cell_by (found_by x) (shortest_by x)) n
whole-cell places db x l n e = rw e (refl, refl, refl)

-- 18 is the number of a payload that spills
eighteen : (refusal : Refusal) → spills refusal ≡ true → (refused_by refusal).number ≡ 18
eighteen (OfDatabase flaw) t = never cc
eighteen (OnPage page reason) t = never cc
eighteen (InCell page cell fault) t = by fault t
  where
    by : (f : Fault) → spills_as f ≡ true → (refused_by (InCell page cell f)).number ≡ 18
    by fa.PointerOutside d = never cc
    by fa.CellCut d = never cc
    by fa.PayloadSpills d = refl
    by fa.BufferTooShort d = never cc
    by fa.ChainUnfit d = never cc
    by fa.HeaderUnfit d = never cc
    by (fa.TypeReserved column) d = never cc
    by (fa.ValueUnfit column) d = never cc
    by fa.ClosingCut d = never cc
    by (fa.Marked mark) d = never cc
    by fa.OutOfOrder d = never cc

-- what is gathered was refused with it
was-refused : (page : Page) (i room : ℕ) (db : List ℕ) {c : Spilled} → lent_of page i room db ≡ Ok (gathered c)
    → (cell_by (found_by (located_of page i db)) (shortest_by (located_of page i db))).refused.number ≡ 18
was-refused page i room db {c} e = go (located_of page i db) refl
  where
    by : (refusal : Refusal) → located_of page i db ≡ Err refusal → (t : Bool) → spills refusal ≡ t → (refused_by refusal).number ≡ 18
    by refusal q true t = eighteen refusal t
    by refusal q false t = let d = sym e ∙ (as-with-none page i room db).1 refusal q t in never cc

    go : (x : Result Located Refusal) → located_of page i db ≡ x → (cell_by (found_by x) (shortest_by x)).refused.number ≡ 18
    go (Ok l) q = let d = sym e ∙ (as-with-none page i room db).0 l q in never cc
    go (Err refusal) q = by refusal q (spills refusal) refl

pub cells_agree : CellsAgree
cells_agree false number i places db b o (whole l) op e =
    whole-cell places db (located_of (file_page number) i db) l (numbers_in o i db) (located-open (file_page number) i db op ∙ lent-located o i db b (length b) e)
cells_agree false number i places db b o (gathered c) op e = (
  was-refused (file_page number) i (length b) db (lent-open (file_page number) i (length b) db op ∙ e),
  λ m d.
      let t = lent-told o i (length b) db e in
      let s = sym t.numbers ∙ d in
      let n : c.cell.numbers ≡ m = cc in
      ap (λ (z : Number). row_number z.value) (ap (λ (z : Numbers). z.key) (sym n) ∙ sym t.row),
)
cells_agree true number i places db b o f op e =
    by-marked (λ (y : Lent). SameCell y (row_lent places db (Ok y)) (cell_in true number i db) (numbers_in o i db)) o i (length b) db e
    (λ l q. whole-cell places db _ l (numbers_in o i db) (guarded-open number i db op ∙ lent-guarded i (length b) db o q))
