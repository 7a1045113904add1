-- The pages that a walk comes to, and the visits that it has left, are as many as it had.
--
-- The proof goes along the walk, clause by clause, and so unfolds its three functions, which stand in `trace`: a law for each clause
-- would be the definition again.
use Prim.Native.Nat.{ℕ, zero, suc, ◌+◌, ◌≤◌}
use mathlib.Core.Path.{◌≡◌, refl}
use mathlib.Core.List.{List}
use native.Mathlib.Omega.{arith}
use lib.IntN.{ℤ, pos}
use lib.ListN.{length}
use Rattle.std.specs.Prelude.{Err, None, Ok, Result, Some}
use Rattle.answers.specs.declared.Refusal.{Refusal}
use Rattle.cell.specs.declared.Numbers.{Numbers}
use Rattle.page.specs.declared.Open.{Open}
use Rattle.keys.specs.Key.{key_of}
use Rattle.order.specs.Order.{placed_in}
use Rattle.trace.specs.declared.State.{State}
use Rattle.trace.specs.declared.Table.TheVariants.{Leaf, Interior}
use Rattle.trace.specs.Walk.{Walk, refused, went, row, page, ◌>>=◌, told, pages_of}
use Rattle.trace.specs.Table.{table_at, last_child}
use Rattle.trace.specs.Tree.{state, visit, leaf_of, children_of, cells_of, walk_of}
use Rattle.trace.proofs.Steps.{table-shaped}
use Rattle.trace.specs.declared.Table.{Table}
use Rattle.trees.specs.Trees.{VisitsEnd}

-- a walk comes to no more pages than it has visits, and what it leaves is not more either
abbrev Spends : ℕ → Walk State → Type 0
Spends v (refused r) = Unit
Spends v (went s) = s.visits ≤ v
Spends v (row r w) = Spends v w
Spends v (page n w) = (u : ℕ) × (v ≡ suc u) × Spends u w

both : (v : ℕ) (w : Walk State) (f : State → Walk State) → Spends v w → ((s : State) (u : ℕ) → s.visits ≤ u → Spends u (f s)) → Spends v (w >>= f)
both v (refused r) f h k = tt
both v (went s) f h k = k s v h
both v (row r w) f h k = both v w f h k
both v (page n w) f h k = (h.0, h.1, both h.0 w f h.2 k)

spent : (v : ℕ) (w : Walk State) → Spends v w → length (pages_of w) ≤ v
spent v (refused r) h = omega arith
spent v (went s) h = omega arith
spent v (row r w) h = spent v w h
spent v (page n w) h = let l = spent h.0 w h.2 in omega (arith, h.1)

in_place : (v : ℕ) (x : Result Numbers Refusal) (f : Numbers → Walk State) → ((n : Numbers) → Spends v (f n)) → Spends v (told x >>= f)
in_place v (Err r) f h = tt
in_place v (Ok n) f h = h n

leaf-spends : (o : Open) (db : List ℕ) (most : ℤ) (left i : ℕ) (s : State) (v : ℕ) → s.visits ≤ v → Spends v (leaf_of o db most left i s)
unfolding leaf_of
leaf-spends o db most zero i s v l = l
leaf-spends o db most (suc left) i s v l = in_place v (placed_in o db most i s.low) _ λ n. leaf-spends o db most left (i + 1) (state s.visits (Some (key_of n))) v l

module _ (under : ℕ → ℤ → State → Walk State) (spends : (n : ℕ) (most : ℤ) (s : State) (v : ℕ) → s.visits ≤ v → Spends v (under n most s)) (db : List ℕ) (most : ℤ) where
  children-spends : (o : Open) (left i : ℕ) (s : State) (v : ℕ) → s.visits ≤ v → Spends v (children_of under o db most left i s)
  unfolding children_of
  children-spends o zero i s v l = spends (last_child o db) most s v l
  children-spends o (suc left) i s v l =
      in_place v (placed_in o db most i s.low) _ λ n.
      both v (under n.child (key_of n) s) _ (spends n.child (key_of n) s v l) λ t u m. children-spends o left (i + 1) (state t.visits (Some (key_of n))) u m

  cells-spend : (t : Result Table Refusal) (s : State) (v : ℕ) → s.visits ≤ v → Spends v (cells_of under db most t s)
  cells-spend (Err r) s v l = tt
  cells-spend (Ok (Leaf o)) s v l = leaf-spends o db most o.cells 0 s v l
  cells-spend (Ok (Interior o)) s v l = children-spends o o.cells 0 s v l

visited : (n visits v : ℕ) → visits ≤ v → (f : ℕ → Walk State) → ((w u : ℕ) → w ≤ u → Spends u (f w)) → Spends v (visit n visits >>= f)
visited n zero v l f h = tt
visited n (suc w) zero l f h = absurd (omega arith)
visited n (suc w) (suc u) l f h = (u, refl, h w u (omega arith))

walk-spends : (depth : ℕ) (db : List ℕ) (n : ℕ) (most : ℤ) (s : State) (v : ℕ) → s.visits ≤ v → Spends v (walk_of depth db n most s)
unfolding walk_of
walk-spends zero db n most s v l = visited n s.visits v l _ λ w u m. tt
walk-spends (suc depth) db n most s v l = visited n s.visits v l _ λ w u m. cells-spend (walk_of depth db) (walk-spends depth db) db most (table_at n db) (state w s.low) u m

pub visits-end : VisitsEnd
visits-end n db shape e = rw (table-shaped n db e) (spent shape.pages (walk_of 20 db n (pos 9223372036854775807) (state shape.pages None)) (walk-spends 20 db n (pos 9223372036854775807) (state shape.pages None) shape.pages (omega arith)))
