-- What the short way saw of the row is what the plain form finds.
use Prim.Native.Nat.{ℕ, ◌+◌, ◌-◌, ◌*◌, ◌≤◌, ◌<◌}
use mathlib.Core.Path.{◌≡◌, subst, sym, ◌∙◌}
use mathlib.Core.List.{List}
use mathlib.Core.Bool.{Bool, true}
use native.Mathlib.Omega.{arith}
use lib.ListN.{length, take, drop}
use Rattle.fields.specs.Fields.{unsigned}
use Rattle.laws.proofs.Parts.{tail}
use Rattle.kinds.specs.declared.Kind.TheVariants.{LeafTable}
use Rattle.place.specs.Place.{page_at}
use Rattle.page.specs.declared.Open.{Open}
use Rattle.page.specs.Head.{pointers_end}
use Rattle.page.specs.Open.{lies_in}
use Rattle.cells.specs.Pointers.{pointer_at, part_at}
use Rattle.cells.proofs.Laws.{part_length}
use Rattle.usual.specs.declared.Span.{Span}
use Rattle.usual.specs.Short.{Start}
use Rattle.usual.specs.Usual.{row_in}
use Rattle.usual.proofs.Records.{start-lies}
use Rattle.usual.proofs.Rows.{opened, head, page-is, page-long, pointer_is, cursor, says}
use Rattle.usual.proofs.found_on.Goals as goal
use Rattle.usual.specs.Usual.{row_with}

-- where the page lies
record Lies (o : Open) (db : List ℕ) : Type 0 where
  pub there : o.at + o.size ≤ length db
  pub short : o.end ≤ o.size
  pub first : o.from + 8 + 2 * o.cells ≤ o.end
  pub long : length (take (o.at + o.size - o.at) (drop o.at db)) ≡ o.size

page_lies : (o : Open) (db : List ℕ) → o.kind ≡ LeafTable → lies_in (length db) o ≡ true → Lies o db
page_lies o db kind lies =
    let x = opened o db kind lies in
    record { there = x.there; short = x.short; first = head o db kind lies; long = page-long o db kind lies }

-- where the row is seen: its header and its payload lie in the bytes
record Held (o : Open) (db : List ℕ) (p : ℕ) (x : Span) : Type 0 where
  pub low : 1 ≤ x.header
  pub high : x.header ≤ x.payload
  pub bound : o.at + p + x.from + x.payload ≤ length db

module _ (g : Bool) (o : Open) (db : List ℕ) (p : ℕ) (x : Span) (kind : o.kind ≡ LeafTable) (lies : lies_in (length db) o ≡ true) where
  abbrev page : List ℕ
  page = take (o.at + o.size - o.at) (drop o.at db)

  abbrev part : List ℕ
  part = take (o.end - p) (drop p page)

  seen : Start g o.page.reading o.end part x → Start g o.page.reading o.end (part_at o p (page_at o.at o.size db)) x
  seen b = rw (page-is o db kind lies) at b

  held : p < o.end → Start g o.page.reading o.end part x → Held o db p x
  held before b =
      let h = page_lies o db kind lies in
      let l = start-lies g o.page.reading o.end _ (seen b) in
      let long = part_length o db (opened o db kind lies) p in
      let within = rw long at l.2 in
      record { low = l.0; high = l.1; bound = omega arith }

  found : (i : ℕ) → i < o.cells → p ≡ unsigned 2 (take (length page - (o.from + 8 + 2 * i)) (drop (o.from + 8 + 2 * i) page))
      → o.from + 8 + 2 * o.cells ≤ p → p < o.end → Start g o.page.reading o.end part x
      → row_in g o i db ≡ row_with x.number x.columns (cursor o p x)
  found i below named behind before b =
      let n : p ≡ pointer_at o i (page_at o.at o.size db) =
      rw (tail _ (o.from + 8 + 2 * i), page-is o db kind lies) at named ∙ pointer_is o db kind lies i in
      says g o i db kind lies below p n (subst (λ k. pointers_end o.from k o.cells ≤ p) (sym kind) behind) before x (seen b)

pub overflow_add-base-2 : goal.overflow_add-base-2
overflow_add-base-2 c =
    let a = c.args in
    let b = held a.guarded a.opened a.db.now c.from-pointer.result c.in_ok-span.span c.requires.leaf c.requires.lies c.if-end-pointer.false c.in_ok-span.ensures in
    omega arith

pub overflow_add-values : goal.overflow_add-values
overflow_add-values c =
    let a = c.args in
    let b = held a.guarded a.opened a.db.now c.from-pointer.result c.in_ok-span.span c.requires.leaf c.requires.lies c.if-end-pointer.false c.in_ok-span.ensures in
    omega arith

pub overflow_add-result : goal.overflow_add-result
overflow_add-result c =
    let a = c.args in
    let b = held a.guarded a.opened a.db.now c.from-pointer.result c.in_ok-span.span c.requires.leaf c.requires.lies c.if-end-pointer.false c.in_ok-span.ensures in
    omega arith

pub overflow_add-result-2 : goal.overflow_add-result-2
overflow_add-result-2 c =
    let a = c.args in
    let b = held a.guarded a.opened a.db.now c.from-pointer.result c.in_ok-span.span c.requires.leaf c.requires.lies c.if-end-pointer.false c.in_ok-span.ensures in
    omega arith

pub returns : goal.returns
returns c =
    let a = c.args in
    found a.guarded a.opened a.db.now c.from-pointer.result c.in_ok-span.span c.requires.leaf c.requires.lies a.i c.requires.below
    (c.from-pointer.ensures ∙ c.be_u16.ensures) c.if-pointer-first.false c.if-end-pointer.false c.in_ok-span.ensures
