-- The rows of a walk rise strictly: those of a refused one too, up to where it is refused.
--
-- The proof goes along the walk, clause by clause, and so unfolds its three functions, which stand in `trace`: a law for each clause
-- would be the definition again.
use Prim.Native.Nat.{ℕ, zero, suc, ◌+◌}
use mathlib.Core.Path.{◌≡◌, refl}
use mathlib.Core.List.{List, [], ◌∷◌}
use mathlib.Core.Bool.{Bool, true, false}
use native.Mathlib.Omega.{arith}
use lib.IntN.{ℤ, pos, negsuc}
use lib.Dec.{T, ltb→lt, le→leb}
use lib.Signed.{lt_z, ◌≤ℤ◌, ◌<ℤ◌, lt_z_yes, lt_z_no, <ℤ-≤ℤ_trans, clash_ℤ}
use native.Mathlib.Nat.{le_of_lt}
use Rattle.std.specs.Prelude.{Err, None, Ok, Option, Result, Some}
use Rattle.laws.specs.Pick.{pick}
use Rattle.laws.proofs.Never.{never}
use Rattle.answers.specs.declared.Flaw.{Flaw}
use Rattle.answers.specs.declared.Refusal.{Refusal}
use Rattle.reading.specs.declared.Reading.TheVariants.{File as file}
use Rattle.cell.specs.declared.Numbers.{Numbers}
use Rattle.shape.specs.declared.Shape.{Shape}
use Rattle.shape.specs.Shape.{shape_of}
use Rattle.page.specs.declared.Open.{Open}
use Rattle.keys.specs.Key.{key_of}
use Rattle.order.specs.Order.{above, fits_in, placed_in}
use Rattle.order.proofs.Placed.{placed-read}
use Rattle.trace.specs.declared.State.{State}
use Rattle.trace.specs.declared.Table.TheVariants.{Leaf, Interior}
use Rattle.trace.specs.Walk.{Row, Walk, refused, went, row, page, ◌>>=◌, told, rows_of}
use Rattle.trace.specs.Table.{table_at, last_child}
use Rattle.trace.specs.Tree.{state, visit, leaf_of, children_of, cells_of, walk_of, table_of}
use Rattle.trace.proofs.Steps.{table-flawed, table-shaped}
use Rattle.trace.specs.declared.Table.{Table}
use Rattle.trees.specs.Trees.{Over, Rising, Rises}

-- the order of signed numbers
truth : {b : Bool} → b ≡ true → T b
truth e = rw e tt

pub le-lt : {a b c : ℤ} → a ≤ℤ b → b <ℤ c → a <ℤ c
le-lt {a} {b} {c} h k = go (lt_z a c) refl
  where
    go : (t : Bool) → lt_z a c ≡ t → a <ℤ c
    go true e = lt_z_yes (truth e)
    go false e = clash_ℤ (<ℤ-≤ℤ_trans k (lt_z_no (rw e tt))) h

pub lt_to_le : (a b : ℤ) → a <ℤ b → a ≤ℤ b
lt_to_le (pos a) (pos b) h = record { le = le→leb a b (le_of_lt (ltb→lt a b h.lt)) }
lt_to_le (pos a) (negsuc b) h = absurd h.lt
lt_to_le (negsuc a) (pos b) h = record { le = tt }
lt_to_le (negsuc a) (negsuc b) h = record { le = le→leb b a (le_of_lt (ltb→lt b a h.lt)) }

pub same-le : (a : ℤ) → a ≤ℤ a
same-le (pos a) = record { le = le→leb a a (omega arith) }
same-le (negsuc a) = record { le = le→leb a a (omega arith) }

le-le : {a b c : ℤ} → a ≤ℤ b → b ≤ℤ c → a ≤ℤ c
le-le {a} {b} {c} h k = go (lt_z c a) refl
  where
    go : (t : Bool) → lt_z c a ≡ t → a ≤ℤ c
    go true e = clash_ℤ (<ℤ-≤ℤ_trans (lt_z_yes (truth e)) h) k
    go false e = lt_z_no (rw e tt)

-- a walk whose rows rise from `low` on and are at most `most`
abbrev Up : Option ℤ → ℤ → Walk State → Type 0
Up low most w = Rising low most (rows_of w)

-- a low end that a number is not below
abbrev UpTo : Option ℤ → ℤ → Type 0
UpTo None key = Unit
UpTo (Some last) key = last ≤ℤ key

over : (low : Option ℤ) {key x : ℤ} → UpTo low key → key <ℤ x → Over low x
over None u h = tt
over (Some last) u h = le-lt u h

over-to : (low : Option ℤ) (key : ℤ) → Over low key → UpTo low key
over-to None key o = tt
over-to (Some last) key o = lt_to_le last key o

lower : (low : Option ℤ) (key most : ℤ) → UpTo low key → (rows : List Row) → Rising (Some key) most rows → Rising low most rows
lower low key most u [] r = tt
lower low key most u (x ∷ rows) r = (r.0, over low u r.1, r.2)

-- rows up to a key, and then rows above it
joined : (low : Option ℤ) (key most : ℤ) → UpTo low key → key ≤ℤ most → (w : Walk State) (f : State → Walk State)
    → Up low key w → ((t : State) → Up (Some key) most (f t)) → Up low most (w >>= f)
joined low key most u h (refused r) f first rest = tt
joined low key most u h (went t) f first rest = lower low key most u (rows_of (f t)) (rest t)
joined low key most u h (page k w) f first rest = joined low key most u h w f first rest
joined low key most u h (row r w) f first rest = (le-le first.0 h, first.1, joined (Some r.number) key most first.0 h w f first.2 rest)

-- a number in its place
in_place : (low : Option ℤ) (most x : ℤ) → fits_in low most x ≡ true → (x ≤ℤ most) × Over low x
in_place low most x = go low (lt_z most x) refl
  where
    go : (low : Option ℤ) (b : Bool) → lt_z most x ≡ b → pick b false (above low x) ≡ true → (x ≤ℤ most) × Over low x
    go low true e t = never cc
    go None false e t = (lt_z_no (rw e tt), tt)
    go (Some last) false e t = (lt_z_no (rw e tt), lt_z_yes (truth t))

placed : (o : Open) (db : List ℕ) (most : ℤ) (i : ℕ) (low : Option ℤ) (f : Numbers → Walk State)
    → ((n : Numbers) → key_of n ≤ℤ most → Over low (key_of n) → Up low most (f n)) → Up low most (told (placed_in o db most i low) >>= f)
placed o db most i low f rest = go (placed_in o db most i low) refl
  where
    go : (x : Result Numbers Refusal) → placed_in o db most i low ≡ x → Up low most (told x >>= f)
    go (Err r) e = tt
    go (Ok n) e = let p = in_place low most (key_of n) (placed-read o db most i low e).1 in rest n p.0 p.1

leaf-up : (o : Open) (db : List ℕ) (most : ℤ) (left i : ℕ) (s : State) → Up s.low most (leaf_of o db most left i s)
unfolding leaf_of
leaf-up o db most zero i s = tt
leaf-up o db most (suc left) i s =
    placed o db most i s.low _ λ n h k. (h, k, leaf-up o db most left (i + 1) (state s.visits (Some (key_of n))))

module _ (under : ℕ → ℤ → State → Walk State) (rises : (n : ℕ) (most : ℤ) (s : State) → Up s.low most (under n most s)) (db : List ℕ) (most : ℤ) where
  children-up : (o : Open) (left i : ℕ) (s : State) → Up s.low most (children_of under o db most left i s)
  unfolding children_of
  children-up o zero i s = rises (last_child o db) most s
  children-up o (suc left) i s =
      placed o db most i s.low _ λ n h k.
      joined s.low (key_of n) most (over-to s.low (key_of n) k) h (under n.child (key_of n) s) _ (rises n.child (key_of n) s)
      λ t. children-up o left (i + 1) (state t.visits (Some (key_of n)))

  cells_up : (t : Result Table Refusal) (s : State) → Up s.low most (cells_of under db most t s)
  cells_up (Err r) s = tt
  cells_up (Ok (Leaf o)) s = leaf-up o db most o.cells 0 s
  cells_up (Ok (Interior o)) s = children-up o o.cells 0 s

visited : (n visits : ℕ) (low : Option ℤ) (most : ℤ) (f : ℕ → Walk State) → ((v : ℕ) → Up low most (f v)) → Up low most (visit n visits >>= f)
visited n zero low most f h = tt
visited n (suc v) low most f h = h v

walk_up : (depth : ℕ) (db : List ℕ) (n : ℕ) (most : ℤ) (s : State) → Up s.low most (walk_of depth db n most s)
unfolding walk_of
walk_up zero db n most s = visited n s.visits s.low most _ λ v. tt
walk_up (suc depth) db n most s = visited n s.visits s.low most _ λ v. cells_up (walk_of depth db) (walk_up depth db) db most (table_at n db) (state v s.low)

pub rises : Rises
rises n db = go (shape_of file db) refl
  where
    go : (x : Result Shape Flaw) → shape_of file db ≡ x → Rising None (pos 9223372036854775807) (rows_of (table_of n db))
    go (Err flaw) e = rw (table-flawed n db e) tt
    go (Ok shape) e = rw (table-shaped n db e) (walk_up 20 db n (pos 9223372036854775807) (state shape.pages None))
