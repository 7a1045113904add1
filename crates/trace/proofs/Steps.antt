-- The walk, step by step, as the code counts it.
use Prim.Native.Nat.{ℕ, zero, suc, ◌+◌, ◌-◌, ◌≤◌, ◌<◌, min}
use mathlib.Core.Path.{◌≡◌, refl, ap, ◌∙◌}
use mathlib.Core.List.{List}
use mathlib.Core.Bool.{Bool, true, false}
use native.Mathlib.Omega.{arith}
use lib.Dec.{eqb, ltb}
use lib.IntN.{ℤ, pos}
use borrow.Author.Tests.{eqb-true, eqb-false, ltb-true, ltb-false}
use Rattle.std.specs.Prelude.{Err, None, Ok, Result, Some}
use Rattle.laws.specs.Pick.{pick}
use Rattle.laws.proofs.Never.{never}
use Rattle.answers.specs.declared.Flaw.{Flaw}
use Rattle.answers.specs.declared.Reason.TheVariants as re
use Rattle.answers.specs.declared.Refusal.{Refusal}
use Rattle.answers.specs.declared.Refusal.TheVariants.{OfDatabase, OnPage}
use Rattle.reading.specs.declared.Reading.TheVariants.{File as file}
use Rattle.cell.specs.declared.Numbers.{Numbers}
use Rattle.shape.specs.declared.Shape.{Shape}
use Rattle.shape.specs.Shape.{shape_of}
use Rattle.page.specs.declared.Open.{Open}
use Rattle.keys.specs.Key.{key_of}
use Rattle.order.specs.declared.Down.{Down}
use Rattle.order.specs.Order.{down_to, placed_in, placed_key, placed_down}
use Rattle.trace.specs.declared.State.{State}
use Rattle.trace.specs.Walk.{Walk, refused, went, row, page, ◌>>=◌}
use Rattle.trace.specs.Table.{no_table, table_at, entered, last_child}
use Rattle.trace.specs.Tree.{state, visit, leaf_of, children_of, cells_of, walk_of, table_of}
use Rattle.trace.specs.Counted.{more, counted, walked}
use Rattle.trace.specs.declared.Table.{Table}
use Rattle.trace.specs.declared.Walked.{Walked}

-- a walk that came to its end, and what an interior cell leads to, are told by their parts
pub walked-parts : {s t : State} {n m : ℕ} → walked s n ≡ walked t m → (s ≡ t) × (n ≡ m)
walked-parts {s} {t} {n} {m} e =
    let f : ◌≡◌ {A = Walked} (record { state = s; count = n }) (record { state = t; count = m }) = cc in
    (ap (λ w. w.state) f, ap (λ w. w.count) f)

down-parts : {n m : ℕ} {k l : ℤ} → down_to n k ≡ down_to m l → (n ≡ m) × (k ≡ l)
down-parts {n} {m} {k} {l} e =
    let f : ◌≡◌ {A = Down} (record { child = n; key = k }) (record { child = m; key = l }) = cc in
    (ap (λ d. d.child) f, ap (λ d. d.key) f)

-- one more, as the code counts it
pub one-more : (n : ℕ) → n ≤ 18446744073709551615 → min (n + 1) 18446744073709551615 ≡ more n
one-more n h = go (ltb n 18446744073709551615) refl
  where
    go : (b : Bool) → ltb n 18446744073709551615 ≡ b → min (n + 1) 18446744073709551615 ≡ pick b (n + 1) n
    go true e = let f = ltb-true n 18446744073709551615 e in omega arith
    go false e = let f = ltb-false n 18446744073709551615 e in omega arith

-- ONE WALK BEHIND ANOTHER

stopped : (n : ℕ) (w : Walk State) (f : State → Walk State) {r : Refusal} → counted n w ≡ Err r → counted n (w >>= f) ≡ Err r
stopped n (refused r) f e = e
stopped n (went s) f e = never cc
stopped n (row r w) f e = stopped (more n) w f e
stopped n (page k w) f e = stopped n w f e

gone : (n : ℕ) (w : Walk State) (f : State → Walk State) {s : State} {m : ℕ} → counted n w ≡ walked s m → counted n (w >>= f) ≡ counted m (f s)
gone n (refused r) f e = never cc
gone n (went s) f e = let p = walked-parts e in rw (p.0, p.1)
gone n (row r w) f e = gone (more n) w f e
gone n (page k w) f e = gone n w f e

-- NUMBERS IN THEIR PLACE, from the code's answers

key-refused : (x : Result Numbers Refusal) {r : Refusal} → placed_key x ≡ Err r → x ≡ Err r
key-refused (Err r) e = cc
key-refused (Ok n) e = never cc

down-refused : (x : Result Numbers Refusal) {r : Refusal} → placed_down x ≡ Err r → x ≡ Err r
down-refused (Err r) e = cc
down-refused (Ok n) e = never cc

record Keyed (x : Result Numbers Refusal) (key : ℤ) : Type 0 where
  n : Numbers
  is : x ≡ Ok n
  same : key_of n ≡ key

keyed : (x : Result Numbers Refusal) {key : ℤ} → placed_key x ≡ Ok key → Keyed x key
keyed (Err r) e = never cc
keyed (Ok n) e = record { n = n; is = refl; same = cc }

record Downed (x : Result Numbers Refusal) (child : ℕ) (key : ℤ) : Type 0 where
  n : Numbers
  is : x ≡ Ok n
  to : n.child ≡ child
  same : key_of n ≡ key

downed : (x : Result Numbers Refusal) {child : ℕ} {key : ℤ} → placed_down x ≡ down_to child key → Downed x child key
downed (Err r) e = never cc
downed (Ok n) e = let p = down-parts e in record { n = n; is = refl; to = p.0; same = p.1 }

-- CELLS

module _ (o : Open) (db : List ℕ) (most : ℤ) (cells i : ℕ) (h : i < cells) (s : State) where
  left : cells - i ≡ suc (cells - (i + 1))
  left = omega arith

  pub leaf-out : {r : Refusal} → placed_key (placed_in o db most i s.low) ≡ Err r → leaf_of o db most (cells - i) i s ≡ refused r
  unfolding leaf_of
  leaf-out e = rw (left, leaf_of, key-refused (placed_in o db most i s.low) e)

  pub leaf-on : {key : ℤ} → placed_key (placed_in o db most i s.low) ≡ Ok key
      → leaf_of o db most (cells - i) i s
      ≡ row (record { page = o.page.number; cell = i; number = key }) (leaf_of o db most (cells - (i + 1)) (i + 1) (state s.visits (Some key)))
  unfolding leaf_of
  leaf-on e = let k = keyed (placed_in o db most i s.low) e in rw (left, leaf_of, k.is, k.same)

  module _ (under : ℕ → ℤ → State → Walk State) where
    pub children-out : {r : Refusal} → placed_down (placed_in o db most i s.low) ≡ Err r → children_of under o db most (cells - i) i s ≡ refused r
    unfolding children_of
    children-out e = rw (left, children_of, down-refused (placed_in o db most i s.low) e)

    module _ {child : ℕ} {key : ℤ} (e : placed_down (placed_in o db most i s.low) ≡ down_to child key) (c : ℕ) where
      abbrev rest : State → Walk State
      rest t = children_of under o db most (cells - (i + 1)) (i + 1) (state t.visits (Some key))

      children-next : children_of under o db most (cells - i) i s ≡ (under child key s >>= rest)
      unfolding children_of
      children-next =
          let d = downed (placed_in o db most i s.low) e in
          rw (left, children_of, d.is)
          (ap (λ (c : ℕ). under c (key_of d.n) s >>= (λ t. children_of under o db most (cells - (i + 1)) (i + 1) (state t.visits (Some (key_of d.n))))) d.to
          ∙ ap (λ (x : ℤ). under child x s >>= (λ t. children_of under o db most (cells - (i + 1)) (i + 1) (state t.visits (Some x)))) d.same)

      pub children-stop : {r : Refusal} → counted c (under child key s) ≡ Err r
          → counted c (children_of under o db most (cells - i) i s) ≡ Err r
      children-stop d = ap (counted c) children-next ∙ stopped c (under child key s) rest d

      pub children-on : {t : State} {m : ℕ} → counted c (under child key s) ≡ walked t m
          → counted c (children_of under o db most (cells - i) i s) ≡ counted m (rest t)
      children-on d = ap (counted c) children-next ∙ gone c (under child key s) rest d

module _ (o : Open) (db : List ℕ) (most : ℤ) (cells i : ℕ) (h : cells ≤ i) (s : State) where
  none : cells - i ≡ 0
  none = omega arith

  pub leaf-end : leaf_of o db most (cells - i) i s ≡ went s
  unfolding leaf_of
  leaf-end = rw (none, leaf_of)

  pub children-end : (under : ℕ → ℤ → State → Walk State) → children_of under o db most (cells - i) i s ≡ under (last_child o db) most s
  unfolding children_of
  children-end under = rw (none, children_of)

-- PAGES

-- a page that was entered: it was due, and its cells are walked
pub record Entered (depth : ℕ) (db : List ℕ) (n : ℕ) (most : ℤ) (s : State) (t : Result Table Refusal) : Type 0 where
  pub visits : 0 < s.visits
  pub deep : 0 < depth
  pub table : table_at n db ≡ t
  pub is : walk_of depth db n most s ≡ page n (cells_of (walk_of (depth - 1) db) db most t (state (s.visits - 1) s.low))

module _ (depth : ℕ) (db : List ℕ) (n : ℕ) (most : ℤ) (s : State) where
  module _ (h : s.visits ≡ 0 → ⊥) where
    visited : visit n s.visits ≡ page n (went (s.visits - 1))
    visited = let some : s.visits ≡ suc (s.visits - 1) = omega arith in ap (visit n) some

    too-deep : depth ≡ 0 → walk_of depth db n most s ≡ page n (refused (OnPage n re.TooDeep))
    unfolding walk_of
    too-deep e = rw (e, walk_of, visited)

    on-page : (depth ≡ 0 → ⊥) → {t : Result Table Refusal} → table_at n db ≡ t → Entered depth db n most s t
    unfolding walk_of
    on-page d e =
        let deep : depth ≡ suc (depth - 1) = omega arith in
        record { visits = omega arith; deep = omega arith; table = e; is = ap (λ (k : ℕ). walk_of k db n most s) deep ∙ rw (walk_of, visited, e) }

  no-visits : (d : ℕ) → s.visits ≡ 0 → walk_of d db n most s ≡ refused (OnPage n re.VisitsUsedUp)
  unfolding walk_of
  no-visits zero e = rw (walk_of, e)
  no-visits (suc d) e = rw (walk_of, e)

  pub enter-refused : (c : ℕ) {r : Refusal} → entered depth s.visits n db ≡ Err r → counted c (walk_of depth db n most s) ≡ Err r
  unfolding entered
  enter-refused c {r} e = by-visits (eqb s.visits 0) refl e
    where
      by-depth : (s.visits ≡ 0 → ⊥) → (b : Bool) → eqb depth 0 ≡ b → pick b (no_table n re.TooDeep) (table_at n db) ≡ Err r
          → counted c (walk_of depth db n most s) ≡ Err r
      by-depth h true t d = ap (counted c) (too-deep h (eqb-true depth 0 t)) ∙ cc
      by-depth h false t d = ap (counted c) (on-page h (eqb-false depth 0 t) d).is

      by-visits : (b : Bool) → eqb s.visits 0 ≡ b → pick b (no_table n re.VisitsUsedUp) (pick (eqb depth 0) (no_table n re.TooDeep) (table_at n db)) ≡ Err r
          → counted c (walk_of depth db n most s) ≡ Err r
      by-visits true t d = ap (counted c) (no-visits depth (eqb-true s.visits 0 t)) ∙ cc
      by-visits false t d = by-depth (eqb-false s.visits 0 t) (eqb depth 0) refl d

  pub enter-table : {t : Table} → entered depth s.visits n db ≡ Ok t → Entered depth db n most s (Ok t)
  unfolding entered
  enter-table {t} e = go (eqb s.visits 0) refl (eqb depth 0) refl e
    where
      go : (a : Bool) → eqb s.visits 0 ≡ a → (b : Bool) → eqb depth 0 ≡ b
          → pick a (no_table n re.VisitsUsedUp) (pick b (no_table n re.TooDeep) (table_at n db)) ≡ Ok t → Entered depth db n most s (Ok t)
      go true p b q d = never cc
      go false p true q d = never cc
      go false p false q d = on-page (eqb-false s.visits 0 p) (eqb-false depth 0 q) d

-- THE TABLE

module _ (n : ℕ) (db : List ℕ) where
  pub table-flawed : {flaw : Flaw} → shape_of file db ≡ Err flaw → table_of n db ≡ refused (OfDatabase flaw)
  unfolding table_of
  table-flawed e = rw e

  pub table-shaped : {shape : Shape} → shape_of file db ≡ Ok shape → table_of n db ≡ walk_of 20 db n (pos 9223372036854775807) (state shape.pages None)
  unfolding table_of
  table-shaped e = rw e
