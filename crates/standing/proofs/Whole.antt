-- An accepted walk has every row that stands in the table, and counts them.
--
-- The proof goes along the walk, clause by clause, and so unfolds its three functions, which stand in `trace`, and what `walk` counts by them: a law for each clause
-- would be the definition again.
use Prim.Native.Nat.{ℕ, zero, suc, ◌+◌, ◌≤◌, ◌<◌}
use mathlib.Core.Path.{◌≡◌, refl, ap, ◌∙◌}
use mathlib.Core.List.{List, [], ◌∷◌, ◌++◌}
use mathlib.Core.Bool.{Bool, true, false}
use native.Mathlib.Omega.{arith}
use lib.Dec.{ltb}
use lib.IntN.{ℤ, pos}
use lib.ListN.{length}
use borrow.Author.Tests.{ltb-false}
use Rattle.std.specs.Prelude.{Err, None, Ok, Result, Some}
use Rattle.laws.specs.Pick.{pick}
use Rattle.laws.proofs.Never.{never}
use Rattle.answers.specs.declared.Flaw.{Flaw}
use Rattle.answers.specs.declared.Refusal.{Refusal}
use Rattle.reading.specs.declared.Reading.TheVariants.{File as file}
use Rattle.cell.specs.declared.Numbers.{Numbers}
use Rattle.shape.specs.declared.Shape.{Shape}
use Rattle.shape.specs.Shape.{shape_of}
use Rattle.page.specs.declared.Open.{Open}
use Rattle.cells.specs.Numbered.{numbers_in}
use Rattle.keys.specs.Key.{key_of}
use Rattle.order.specs.Order.{placed_in}
use Rattle.order.proofs.Placed.{placed-read}
use Rattle.trace.specs.declared.State.{State}
use Rattle.trace.specs.declared.Table.TheVariants as ta
use Rattle.trace.specs.Walk.{Row, Walk, refused, went, row, page, ◌>>=◌, told, rows_of}
use Rattle.trace.specs.Table.{table_at, last_child}
use Rattle.trace.specs.Tree.{state, visit, leaf_of, children_of, cells_of, walk_of, table_of}
use Rattle.trace.specs.Counted.{more, counted, walked}
use Rattle.trace.proofs.Steps.{walked-parts, table-flawed, table-shaped}
use Rattle.trace.specs.declared.Table.{Table}
use Rattle.trace.specs.declared.Walked.{Walked}
use Rattle.walk.specs.Counted.{count_by, count_of}
use Rattle.standing.specs.Rows.{leaf_rows, child_rows, page_rows, all_rows}

-- a walk that, where it is not refused, has the rows `all`
data Has : Walk State → List Row → Type 0 where
  none : (r : Refusal) (all : List Row) → Has (refused r) all
  end : (s : State) → Has (went s) []
  next : (r : Row) {w : Walk State} {all : List Row} → Has w all → Has (row r w) (r ∷ all)
  on : (k : ℕ) {w : Walk State} {all : List Row} → Has w all → Has (page k w) all

both : {w : Walk State} {some more : List Row} (f : State → Walk State) → Has w some → ((s : State) → Has (f s) more) → Has (w >>= f) (some ++ more)
both {more = more} f (none r all) h = none r (all ++ more)
both f (end s) h = h s
both f (next r w) h = next r (both f w h)
both f (on k w) h = on k (both f w h)

-- numbers in their place, and what follows them
in_place : (o : Open) (db : List ℕ) (most : ℤ) (i : ℕ) (s : State) {all : List Row} (f : Numbers → Walk State)
    → ((n : Numbers) → numbers_in o i db ≡ Ok n → Has (f n) all) → Has (told (placed_in o db most i s.low) >>= f) all
in_place o db most i s {all} f h = go (placed_in o db most i s.low) refl
  where
    go : (x : Result Numbers Refusal) → placed_in o db most i s.low ≡ x → Has (told x >>= f) all
    go (Err r) e = none r all
    go (Ok n) e = h n (placed-read o db most i s.low e).0

leaf-has : (o : Open) (db : List ℕ) (most : ℤ) (left i : ℕ) (s : State) → Has (leaf_of o db most left i s) (leaf_rows o db left i)
unfolding leaf_of leaf_rows
leaf-has o db most zero i s = end s
leaf-has o db most (suc left) i s = in_place o db most i s _ (λ n e. rw e (next _ (leaf-has o db most left (i + 1) (state s.visits (Some (key_of n))))))

module _ (under : ℕ → ℤ → State → Walk State) (rows : ℕ → List Row) (has : (n : ℕ) (most : ℤ) (s : State) → Has (under n most s) (rows n)) (db : List ℕ) (most : ℤ) where
  children-has : (o : Open) (left i : ℕ) (s : State) → Has (children_of under o db most left i s) (child_rows rows o db left i)
  unfolding children_of child_rows
  children-has o zero i s = has (last_child o db) most s
  children-has o (suc left) i s =
      in_place o db most i s _
      (λ n e. rw e (both _ (has n.child (key_of n) s) λ t. children-has o left (i + 1) (state t.visits (Some (key_of n)))))

  cells-has : (t : Result Table Refusal) (s : State) → Has (cells_of under db most t s) (page_rows rows db t)
  cells-has (Err r) s = none r []
  cells-has (Ok (ta.Leaf o)) s = leaf-has o db most o.cells 0 s
  cells-has (Ok (ta.Interior o)) s = children-has o o.cells 0 s

visited : (n visits : ℕ) {all : List Row} (f : ℕ → Walk State) → ((v : ℕ) → Has (f v) all) → Has (visit n visits >>= f) all
visited n zero {all} f h = none _ all
visited n (suc v) f h = on n (h v)

has : (depth : ℕ) (db : List ℕ) (n : ℕ) (most : ℤ) (s : State) → Has (walk_of depth db n most s) (all_rows depth db n)
unfolding walk_of all_rows
has zero db n most s = visited n s.visits _ λ v. none _ []
has (suc depth) db n most s = visited n s.visits _ λ v. cells-has (walk_of depth db) (all_rows depth db) (has depth db) db most (table_at n db) (state v s.low)

table-has : (n : ℕ) (db : List ℕ) → Has (table_of n db) (all_rows 20 db n)
table-has n db = go (shape_of file db) refl
  where
    go : (x : Result Shape Flaw) → shape_of file db ≡ x → Has (table_of n db) (all_rows 20 db n)
    go (Err flaw) e = rw (table-flawed n db e) (none _ (all_rows 20 db n))
    go (Ok shape) e = rw (table-shaped n db e) (has 20 db n (pos 9223372036854775807) (state shape.pages None))

-- one more than a count that can still grow
grown : (n : ℕ) → (n ≤ more n) × (more n < 18446744073709551615 → more n ≡ n + 1)
grown n = go (ltb n 18446744073709551615) refl
  where
    go : (b : Bool) → ltb n 18446744073709551615 ≡ b → (n ≤ pick b (n + 1) n) × (pick b (n + 1) n < 18446744073709551615 → pick b (n + 1) n ≡ n + 1)
    go true e = (omega arith, λ h. refl)
    go false e = let f = ltb-false n 18446744073709551615 e in (omega arith, λ h. absurd (omega arith))

-- the rows of an accepted walk, and how many it counted
same_rows : {w : Walk State} {all : List Row} {s : State} {m : ℕ} (n : ℕ) → Has w all → counted n w ≡ walked s m → rows_of w ≡ all
same_rows n (none r all) e = never cc
same_rows n (end t) e = refl
same_rows n (next r more_rows) e = ap (λ (l : List Row). r ∷ l) (same_rows (more n) more_rows e)
same_rows n (on k w) e = same_rows n w e

counts : {w : Walk State} {all : List Row} {s : State} {m : ℕ} (n : ℕ) → Has w all → counted n w ≡ walked s m → m < 18446744073709551615 → m ≡ n + length all
counts n (none r all) e h = never cc
counts {m = m} n (end t) e h = let p = walked-parts e in omega (arith, p.1)
counts {m = m} n (next r {w} {all} more_rows) e h =
    let k = counts (more n) more_rows e h in
    let g = grown n in
    let small : more n < 18446744073709551615 = omega (arith, k) in
    let one = g.1 small in
    k ∙ omega arith
counts n (on k w) e h = counts n w e h

module _ (n : ℕ) (db : List ℕ) {m : ℕ} where
  accepted : count_of n db ≡ Ok m → (s : State) × (counted 0 (table_of n db) ≡ walked s m)
  unfolding count_of
  accepted e = go (counted 0 (table_of n db)) refl e
    where
      go : (x : Result Walked Refusal) → counted 0 (table_of n db) ≡ x → count_by x ≡ Ok m → (s : State) × (counted 0 (table_of n db) ≡ walked s m)
      go (Err r) q d = never cc
      go (Ok w) q d = let i : w.count ≡ m = cc in (w.state, q ∙ ap (walked w.state) i)

  pub whole : count_of n db ≡ Ok m → rows_of (table_of n db) ≡ all_rows 20 db n
  whole e = same_rows 0 (table-has n db) (accepted e).1

  pub whole-counted : count_of n db ≡ Ok m → m < 18446744073709551615 → m ≡ length (all_rows 20 db n)
  whole-counted e h = counts 0 (table-has n db) (accepted e).1 h ∙ omega arith
