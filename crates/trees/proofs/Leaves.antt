-- Behind the visit of a leaf every cell of it is a row, in a walk that is not refused; and rows that were found stay.
--
-- The proof goes along the walk, clause by clause, and so unfolds its three functions, which stand in `trace`: a law for each clause
-- would be the definition again.
use Prim.Native.Nat.{ℕ, zero, suc, ◌+◌, ◌≤◌, ◌<◌}
use mathlib.Core.Path.{◌≡◌, refl, sym, ap, subst, ◌∙◌}
use mathlib.Core.List.{List}
use mathlib.Core.Logic.{inl, inr}
use mathlib.Core.Bool.{Bool, true, false}
use native.Mathlib.Omega.{arith}
use lib.Dec.{ltb}
use lib.IntN.{ℤ, pos}
use borrow.Author.Tests.{ltb-true, ltb-false}
use Rattle.std.specs.Prelude.{Err, None, Ok, Result, Some}
use Rattle.laws.proofs.Never.{never}
use Rattle.answers.specs.declared.Flaw.{Flaw}
use Rattle.answers.specs.declared.Refusal.{Refusal}
use Rattle.reading.specs.declared.Reading.TheVariants.{File as file}
use Rattle.kinds.specs.declared.Kind.TheVariants.{LeafTable}
use Rattle.cell.specs.declared.Numbers.{Numbers}
use Rattle.shape.specs.declared.Shape.{Shape}
use Rattle.shape.specs.Shape.{shape_of}
use Rattle.place.specs.declared.Page.{Page}
use Rattle.place.specs.Place.{file_page}
use Rattle.page.specs.declared.Open.{Open}
use Rattle.page.specs.Open.{open_of}
use Rattle.page.proofs.Steps.{open-page}
use Rattle.keys.specs.Key.{key_of}
use Rattle.order.specs.Order.{placed_in}
use Rattle.trace.specs.declared.State.{State}
use Rattle.trace.specs.declared.Table.TheVariants.{Leaf, Interior}
use Rattle.trace.specs.Walk.{Walk, refused, went, row, page, ◌>>=◌, told, rows_of, pages_of}
use Rattle.trace.specs.Table.{table_at, last_child}
use Rattle.trace.specs.Tree.{state, visit, leaf_of, children_of, cells_of, walk_of, table_of}
use Rattle.trace.proofs.Pages.{table-opens}
use Rattle.trace.proofs.Steps.{table-flawed, table-shaped}
use Rattle.trace.specs.declared.Table.{Table}
use Rattle.trees.specs.Trees.{Accepted, Visited, Listed, EveryCell}

-- ONE WALK BEHIND ANOTHER

accepted-first : (w : Walk State) (f : State → Walk State) → Accepted (w >>= f) → Accepted w
accepted-first (refused r) f a = a
accepted-first (went s) f a = tt
accepted-first (row r w) f a = accepted-first w f a
accepted-first (page n w) f a = accepted-first w f a

listed-on : (n i : ℕ) (w : Walk State) (f : State → Walk State) → Listed n i (rows_of w) → Listed n i (rows_of (w >>= f))
listed-on n i (refused r) f l = absurd l
listed-on n i (went s) f l = absurd l
listed-on n i (row r w) f (inl p) = inl p
listed-on n i (row r w) f (inr l) = inr (listed-on n i w f l)
listed-on n i (page k w) f l = listed-on n i w f l

-- an answer is of one page
shown-same : {x y : Open} → ◌≡◌ {A = Result Open Refusal} (Ok x) (Ok y) → x ≡ y
shown-same f = cc

-- the cells of page n, where it is a leaf
abbrev Leafed : List ℕ → ℕ → Walk State → Type 0
Leafed db n w = (o : Open) → open_of (file_page n) db ≡ Ok o → o.kind ≡ LeafTable → Accepted w → (i : ℕ) → i < o.cells → Listed n i (rows_of w)

abbrev Whole : List ℕ → Walk State → Type 0
Whole db (refused r) = Unit
Whole db (went s) = Unit
Whole db (row r w) = Whole db w
Whole db (page n w) = Leafed db n w × Whole db w

module _ (db : List ℕ) where
  both : (w : Walk State) (f : State → Walk State) → Whole db w → ((s : State) → Whole db (f s)) → Whole db (w >>= f)
  both (refused r) f h k = tt
  both (went s) f h k = k s
  both (row r w) f h k = both w f h k
  both (page n w) f h k = ((λ o e d a i l. listed-on n i w f (h.0 o e d (accepted-first w f a) i l)), both w f h.1 k)

  in_place : (x : Result Numbers Refusal) (f : Numbers → Walk State) → ((n : Numbers) → Whole db (f n)) → Whole db (told x >>= f)
  in_place (Err r) f h = tt
  in_place (Ok n) f h = h n

  -- A LEAF

  leaf-whole : (o : Open) (most : ℤ) (left i : ℕ) (s : State) → Whole db (leaf_of o db most left i s)
  unfolding leaf_of
  leaf-whole o most zero i s = tt
  leaf-whole o most (suc left) i s = in_place (placed_in o db most i s.low) _ λ n. leaf-whole o most left (i + 1) (state s.visits (Some (key_of n)))

  -- behind cell i, whose numbers are n
  abbrev rest : Open → ℤ → ℕ → ℕ → State → Numbers → Walk State
  rest o most left i s n = leaf_of o db most left (i + 1) (state s.visits (Some (key_of n)))

  -- cell i, and what is behind it
  abbrev from : Open → ℤ → ℕ → ℕ → State → Numbers → Walk State
  from o most left i s n = row (record { page = o.page.number; cell = i; number = key_of n }) (rest o most left i s n)

  leaf-lists : (o : Open) (most : ℤ) (left i : ℕ) (s : State) → Accepted (leaf_of o db most left i s) → (k : ℕ) → i ≤ k → k < i + left
      → Listed o.page.number k (rows_of (leaf_of o db most left i s))
  unfolding leaf_of
  leaf-lists o most zero i s a k l h = absurd (omega arith)
  leaf-lists o most (suc left) i s a k l h =
      by (placed_in o db most i s.low) a (λ n b m. leaf-lists o most left (i + 1) (state s.visits (Some (key_of n))) b k m (omega arith))
    where
      this-or : (n : Numbers) → (i + 1 ≤ k → Listed o.page.number k (rows_of (rest o most left i s n))) → (c : Bool) → ltb i k ≡ c
          → Listed o.page.number k (rows_of (from o most left i s n))
      this-or n f true e = let g = ltb-true i k e in inr (f (omega arith))
      this-or n f false e = let g = ltb-false i k e in inl (refl, omega arith)

      by : (x : Result Numbers Refusal) → Accepted (told x >>= from o most left i s)
          → ((n : Numbers) → Accepted (rest o most left i s n) → i + 1 ≤ k → Listed o.page.number k (rows_of (rest o most left i s n)))
          → Listed o.page.number k (rows_of (told x >>= from o most left i s))
      by (Err r) b f = absurd b
      by (Ok n) b f = this-or n (f n b) (ltb i k) refl

  -- A PAGE

  module _ (under : ℕ → ℤ → State → Walk State) (whole : (n : ℕ) (most : ℤ) (s : State) → Whole db (under n most s)) (most : ℤ) where
    children-whole : (o : Open) (left i : ℕ) (s : State) → Whole db (children_of under o db most left i s)
    unfolding children_of
    children-whole o zero i s = whole (last_child o db) most s
    children-whole o (suc left) i s =
        in_place (placed_in o db most i s.low) _ λ n.
        both (under n.child (key_of n) s) _ (whole n.child (key_of n) s) λ t. children-whole o left (i + 1) (state t.visits (Some (key_of n)))

    cells_whole : (n : ℕ) (t : Result Table Refusal) → table_at n db ≡ t → (s : State) → Leafed db n (cells_of under db most t s) × Whole db (cells_of under db most t s)
    cells_whole n (Err r) q s = ((λ o e d a i l. absurd a), tt)
    cells_whole n (Ok (Leaf o)) q s = (
      (λ p e d a i l.
          let opens = table-opens n db q in
          let z : p ≡ o = shown-same (sym e ∙ opens.0) in
          let named : o.page.number ≡ n = ap (λ (x : Page). x.number) (open-page (file_page n) db opens.0) in
          let within : i < o.cells = rw z at l in
          subst (λ (m : ℕ). Listed m i (rows_of (leaf_of o db most o.cells 0 s))) named (leaf-lists o most o.cells 0 s a i (omega arith) (omega arith))),
      leaf-whole o most o.cells 0 s,
    )
    cells_whole n (Ok (Interior o)) q s = (
      (λ p e d a i l.
          let opens = table-opens n db q in
          let z : p ≡ o = shown-same (sym e ∙ opens.0) in
          let k = sym d ∙ ap (λ (x : Open). x.kind) z ∙ opens.1 in
          never cc),
      children-whole o o.cells 0 s,
    )

  visited : (n visits : ℕ) (f : ℕ → Walk State) → ((v : ℕ) → Leafed db n (f v) × Whole db (f v)) → Whole db (visit n visits >>= f)
  visited n zero f h = tt
  visited n (suc v) f h = h v

  walk-whole : (depth n : ℕ) (most : ℤ) (s : State) → Whole db (walk_of depth db n most s)
  unfolding walk_of
  walk-whole zero n most s = visited n s.visits _ λ v. ((λ o e d a i l. absurd a), tt)
  walk-whole (suc depth) n most s = visited n s.visits _ λ v. cells_whole (walk_of depth db) (walk-whole depth) most n (table_at n db) refl (state v s.low)

  -- THE WHOLE

  seen : (w : Walk State) → Whole db w → Accepted w → (p : ℕ) → Visited p (pages_of w) → (o : Open) → open_of (file_page p) db ≡ Ok o
      → o.kind ≡ LeafTable → (i : ℕ) → i < o.cells → Listed p i (rows_of w)
  seen (refused r) h a p v o e d i l = absurd a
  seen (went s) h a p v o e d i l = absurd v
  seen (row r w) h a p v o e d i l = inr (seen w h a p v o e d i l)
  seen (page n w) h a p (inl q) o e d i l = subst (λ (m : ℕ). Leafed db m w) q h.0 o e d a i l
  seen (page n w) h a p (inr v) o e d i l = seen w h.1 a p v o e d i l

  table-whole : (n : ℕ) → Whole db (table_of n db)
  table-whole n = go (shape_of file db) refl
    where
      go : (x : Result Shape Flaw) → shape_of file db ≡ x → Whole db (table_of n db)
      go (Err flaw) e = rw (table-flawed n db e) tt
      go (Ok shape) e = rw (table-shaped n db e) (walk-whole 20 n (pos 9223372036854775807) (state shape.pages None))

pub every-cell : EveryCell
every-cell n db a p v o e d i l = seen db (table_of n db) (table-whole db n) a p v o e d i l
