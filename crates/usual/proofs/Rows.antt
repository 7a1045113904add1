-- A row of a table leaf, found by the plain form where the short way saw that all is well.
use Prim.Native.Nat.{ℕ, ◌+◌, ◌-◌, ◌*◌, ◌≤◌, ◌<◌}
use mathlib.Core.Path.{◌≡◌, refl, sym, ap, subst, ◌∙◌}
use mathlib.Core.List.{List}
use mathlib.Core.Bool.{Bool, true, false}
use native.Mathlib.Omega.{arith}
use lib.ListN.{length, take, drop}
use borrow.Author.Tests.{le-ltb, lt-leb}
use Rattle.fields.specs.Fields.{unsigned}
use Rattle.reading.specs.declared.Reading.{Reading}
use Rattle.reading.specs.declared.Reading.TheVariants.{Old as old, File as file}
use Rattle.record.specs.Types.{count}
use Rattle.record.specs.Record.{values_at}
use Rattle.kinds.specs.declared.Kind.TheVariants.{LeafTable}
use Rattle.cell.specs.Cell.{cell_of}
use Rattle.columns.specs.declared.Cursor.{Cursor}
use Rattle.place.specs.Place.{page_at}
use Rattle.place.proofs.Laws.{page-length}
use Rattle.page.specs.declared.Open.{Open}
use Rattle.page.specs.Head.{pointers_at, pointers_end}
use Rattle.page.specs.Open.{lies_in}
use Rattle.page.proofs.Opened.{Opened, lies-opened}
use Rattle.cells.specs.Pointers.{pointer_at, outside, part_at}
use Rattle.cells.specs.Located as cells
use Rattle.cells.specs.Located.{Located}
use Rattle.cells.proofs.Laws.{held-again}
use Rattle.row.specs.Found.{found_by}
use Rattle.guarded.proofs.Guard.{guarded-again}
use Rattle.usual.specs.declared.Row.{Row}
use Rattle.usual.specs.declared.Span.{Span}
use Rattle.usual.specs.Usual.{found_in, row_by, row_in}
use Rattle.usual.specs.Short.{Start}
use Rattle.std.specs.Prelude.{Ok}
use Rattle.usual.specs.Usual.{row_with}

-- WHERE A TABLE LEAF LIES

module _ (o : Open) (db : List ℕ) (kind : o.kind ≡ LeafTable) (lies : lies_in (length db) o ≡ true) where
  pub opened : Opened o db
  opened = lies-opened o db lies

  pub head : o.from + 8 + 2 * o.cells ≤ o.end
  head = subst (λ k. pointers_end o.from k o.cells ≤ o.end) kind opened.pointers

  -- its bytes, as the code has them
  pub page-is : take (o.at + o.size - o.at) (drop o.at db) ≡ page_at o.at o.size db
  page-is = let e : o.at + o.size - o.at ≡ o.size = omega arith in rw e

  pub page-long : length (take (o.at + o.size - o.at) (drop o.at db)) ≡ o.size
  page-long = rw page-is (page-length o.at o.size db opened.there)

  -- pointer i of it
  pub pointer_is : (i : ℕ) → unsigned 2 (drop (o.from + 8 + 2 * i) (page_at o.at o.size db)) ≡ pointer_at o i (page_at o.at o.size db)
  pointer_is i = ap (λ k. unsigned 2 (drop (pointers_at o.from k + 2 * i) (page_at o.at o.size db))) (sym kind)

-- ITS ROWS

pub row-found : (g : Bool) (o : Open) (i : ℕ) (db : List ℕ) → row_in g o i db ≡ row_by (found_in g o i db)
unfolding row_in
row-found g o i db = refl

-- a row is told by its parts
pub row-parts : {n k m j : ℕ} {c d : Cursor} → row_with n k c ≡ row_with m j d → (n ≡ m) × (k ≡ j) × (c ≡ d)
row-parts {n} {k} {m} {j} {c} {d} e =
    let f : ◌≡◌ {A = Row} (record { number = n; columns = k; cursor = c }) (record { number = m; columns = j; cursor = d }) = cc in
    (ap (λ y. y.number) f, ap (λ y. y.columns) f, ap (λ y. y.cursor) f)

-- behind the pointers and before the end, no reading finds a pointer outside
not-outside : (r : Reading) (o : Open) (p : ℕ) → o.from ≤ p → pointers_end o.from o.kind o.cells ≤ p → p < o.end → outside r o p ≡ false
not-outside old o p h l m = rw (le-ltb o.end p (omega arith), le-ltb p o.from h)
not-outside file o p h l m = rw (le-ltb p (pointers_end o.from o.kind o.cells) l, lt-leb o.end p m)

-- the cursor before its first column
abbrev pub cursor : Open → ℕ → Span → Cursor
cursor o p x =
    record {
      reading = o.page.reading;
      at = o.at + p + x.from + 1;
      stop = o.at + p + x.from + x.header;
      value = o.at + p + x.from + x.header;
      end = o.at + p + x.from + x.payload;
    }

row_told : (x : Span) (l : Located) → l.cell.row.value ≡ x.number → count l.cell.types ≡ x.columns → l.cell.numbers.length ≡ x.from
    → l.cell.payload ≡ x.payload → l.cell.header.length ≡ 1 → values_at l.opened.page.reading l.cell.header ≡ x.header
    → row_by (found_by (Ok l)) ≡ row_with x.number x.columns (cursor l.opened l.pointer x)
row_told x l number columns from payload own values = rw (number, columns, from, payload, values, own)

module _ (g : Bool) (o : Open) (i : ℕ) (db : List ℕ) (kind : o.kind ≡ LeafTable) (lies : lies_in (length db) o ≡ true) (below : i < o.cells) where
  abbrev page : List ℕ
  page = page_at o.at o.size db

  module _ (p : ℕ) (named : p ≡ pointer_at o i page) (behind : pointers_end o.from o.kind o.cells ≤ p) (before : p < o.end)
      (x : Span) (b : Start g o.page.reading o.end (part_at o p page) x) where
    abbrev l : Located
    l = record { opened = o; pointer = p; cell = b.cell }

    located : cells.located_in o i db ≡ Ok l
    located =
        let h : o.from ≤ p = omega arith in
        held-again o i db
        (record {
          lies = opened o db kind lies;
          below = below;
          opened = refl;
          pointer = named;
          allowed = not-outside o.page.reading o p h behind before;
          within = omega arith;
          cell = ap (λ k. cell_of o.page.reading k o.end (part_at o p page)) kind ∙ b.is;
        })

    found : (h : Bool) → g ≡ h → found_in h o i db ≡ found_by (Ok l)
    found true e = ap found_by (guarded-again o i db (record { leaf = kind; located = located; clear = b.clean e }))
    found false e = ap found_by located

    pub says : row_in g o i db ≡ row_with x.number x.columns (cursor o p x)
    says = row-found g o i db ∙ rw (found g refl) (row_told x l b.number b.columns b.from b.payload b.own b.values)
