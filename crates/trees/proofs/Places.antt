-- Each row of a walk is a cell of a leaf that lies in the file: those of a refused one too.
--
-- The proof goes along the walk, clause by clause, and so unfolds its three functions, which stand in `trace`: a law for each clause
-- would be the definition again.
use Prim.Native.Nat.{ℕ, zero, suc, ◌+◌, ◌<◌}
use mathlib.Core.Path.{◌≡◌, refl, sym, ap, ◌∙◌}
use mathlib.Core.List.{List}
use native.Mathlib.Omega.{arith}
use lib.IntN.{ℤ, pos}
use Rattle.std.specs.Prelude.{Err, None, Ok, Option, Result, Some}
use Rattle.answers.specs.declared.Flaw.{Flaw}
use Rattle.answers.specs.declared.Refusal.{Refusal}
use Rattle.reading.specs.declared.Reading.TheVariants.{File as file}
use Rattle.kinds.specs.declared.Kind.TheVariants.{LeafTable}
use Rattle.cell.proofs.Leaf.{leaf}
use Rattle.cell.specs.declared.Numbers.{Numbers}
use Rattle.shape.specs.declared.Shape.{Shape}
use Rattle.shape.specs.Shape.{shape_of}
use Rattle.place.specs.declared.Page.{Page}
use Rattle.place.specs.Place.{file_page, page_at}
use Rattle.page.specs.Open.{open_of}
use Rattle.page.proofs.Steps.{open-page}
use Rattle.page.specs.declared.Open.{Open}
use Rattle.cells.specs.Pointers.{part_at}
use Rattle.cells.specs.Located.{Located, row_number, located_in, located_of}
use Rattle.cells.proofs.Laws.{held, located-open}
use Rattle.cells.proofs.Numbered.{numbers-located}
use Rattle.cells.specs.Numbered.{numbers_in}
use Rattle.keys.specs.Key.{key_of}
use Rattle.order.specs.Order.{placed_in}
use Rattle.order.proofs.Placed.{placed-read}
use Rattle.trace.specs.declared.State.{State}
use Rattle.trace.specs.declared.Table.TheVariants.{Leaf, Interior}
use Rattle.trace.specs.Walk.{Row, Walk, refused, went, row, page, ◌>>=◌, told, rows_of}
use Rattle.trace.specs.Table.{table_at, last_child}
use Rattle.trace.specs.Tree.{state, visit, leaf_of, children_of, cells_of, walk_of, table_of}
use Rattle.trace.proofs.Pages.{table-opens}
use Rattle.trace.proofs.Steps.{table-flawed, table-shaped}
use Rattle.trace.specs.declared.Table.{Table}
use Rattle.trees.specs.Trees.{Cell, Each, AreCells}

-- a cell of a table leaf whose numbers were read
module _ (db : List ℕ) (n : ℕ) (o : Open) (e : open_of (file_page n) db ≡ Ok o) (k : o.kind ≡ LeafTable) (i : ℕ) (m : Numbers) (q : numbers_in o i db ≡ Ok m) where
  abbrev here : Row
  here = record { page = o.page.number; cell = i; number = key_of m }

  named : open_of (file_page o.page.number) db ≡ Ok o
  named = ap (λ (p : Page). open_of (file_page p.number) db) (open-page (file_page n) db e) ∙ e

  number-shown : (l : Located) → located_of (file_page o.page.number) i db ≡ Ok l → row_number l.cell.row.value ≡ key_of m
  number-shown l d =
      let c : located_in o i db ≡ Ok l = sym (located-open (file_page o.page.number) i db named) ∙ d in
      let h = held o i db c in
      let r = (leaf o.page.reading o.end (part_at o l.pointer (page_at o.at o.size db)) (rw k at h.cell)).row in
      let same : Ok m ≡ Ok l.cell.numbers = sym q ∙ numbers-located o i db c in
      let z : m ≡ l.cell.numbers = cc in
      rw (z, r)

  is-cell : i < o.cells → Cell db here
  is-cell h = record { o = o; there = named; leaf = k; inside = h; read = rw q; shows = number-shown }

module _ (db : List ℕ) where
  abbrev All : Walk State → Type 0
  All w = Each (Cell db) (rows_of w)

  both : (w : Walk State) (f : State → Walk State) → All w → ((s : State) → All (f s)) → All (w >>= f)
  both (refused r) f h k = tt
  both (went s) f h k = k s
  both (row r w) f h k = (h.0, both w f h.1 k)
  both (page n w) f h k = both w f h k

  in_place : (o : Open) (most : ℤ) (i : ℕ) (low : Option ℤ) (f : Numbers → Walk State) → ((n : Numbers) → numbers_in o i db ≡ Ok n → All (f n)) → All (told (placed_in o db most i low) >>= f)
  in_place o most i low f h = go (placed_in o db most i low) refl
    where
      go : (x : Result Numbers Refusal) → placed_in o db most i low ≡ x → All (told x >>= f)
      go (Err r) e = tt
      go (Ok n) e = h n (placed-read o db most i low e).0

  module _ (n : ℕ) (o : Open) (e : open_of (file_page n) db ≡ Ok o) (k : o.kind ≡ LeafTable) (most : ℤ) where
    leaf-all : (left i : ℕ) (s : State) → i + left ≡ o.cells → All (leaf_of o db most left i s)
    unfolding leaf_of
    leaf-all zero i s h = tt
    leaf-all (suc left) i s h =
        in_place o most i s.low _ λ m q. (is-cell db n o e k i m q (omega arith), leaf-all left (i + 1) (state s.visits (Some (key_of m))) (omega arith))

  module _ (under : ℕ → ℤ → State → Walk State) (all : (n : ℕ) (most : ℤ) (s : State) → All (under n most s)) (most : ℤ) where
    children-all : (o : Open) (left i : ℕ) (s : State) → All (children_of under o db most left i s)
    unfolding children_of
    children-all o zero i s = all (last_child o db) most s
    children-all o (suc left) i s =
        in_place o most i s.low _ λ n q.
        both (under n.child (key_of n) s) _ (all n.child (key_of n) s) λ t. children-all o left (i + 1) (state t.visits (Some (key_of n)))

    cells-all : (n : ℕ) (t : Result Table Refusal) (s : State) → table_at n db ≡ t → All (cells_of under db most t s)
    cells-all n (Err r) s e = tt
    cells-all n (Ok (Leaf o)) s e = let p = table-opens n db e in leaf-all n o p.0 p.1 most o.cells 0 s (omega arith)
    cells-all n (Ok (Interior o)) s e = children-all o o.cells 0 s

  visited : (n visits : ℕ) (f : ℕ → Walk State) → ((v : ℕ) → All (f v)) → All (visit n visits >>= f)
  visited n zero f h = tt
  visited n (suc v) f h = h v

  walk-all : (depth n : ℕ) (most : ℤ) (s : State) → All (walk_of depth db n most s)
  unfolding walk_of
  walk-all zero n most s = visited n s.visits _ λ v. tt
  walk-all (suc depth) n most s = visited n s.visits _ λ v. cells-all (walk_of depth db) (walk-all depth) most n (table_at n db) (state v s.low) refl

pub are-cells : AreCells
are-cells n db = go (shape_of file db) refl
  where
    go : (x : Result Shape Flaw) → shape_of file db ≡ x → Each (Cell db) (rows_of (table_of n db))
    go (Err flaw) e = rw (table-flawed n db e) tt
    go (Ok shape) e = rw (table-shaped n db e) (walk-all db 20 n (pos 9223372036854775807) (state shape.pages None))
