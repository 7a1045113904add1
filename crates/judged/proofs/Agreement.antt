-- The theorems of specs/Agreement.antt.
use Prim.Native.Nat.{ℕ}
use mathlib.Core.Path.{◌≡◌, refl, sym, ap, subst, ◌∙◌}
use mathlib.Core.List.{List}
use mathlib.Core.Bool.{Bool, true, false}
use Rattle.laws.specs.Pick.{pick}
use Rattle.laws.proofs.Never.{never}
use Rattle.answers.specs.declared.Refusal.{Refusal}
use Rattle.answers.specs.Answer.{◌>>=◌}
use Rattle.kinds.specs.declared.Kind.TheVariants.{LeafTable}
use Rattle.kinds.specs.Kind.{is_leaf_table}
use Rattle.marks.specs.Marks.{mark_of, or_spilled}
use Rattle.place.specs.declared.Page.{Page}
use Rattle.place.specs.Place.{file_page}
use Rattle.page.specs.declared.Open.{Open}
use Rattle.page.specs.Open.{open_from, open_of}
use Rattle.page.proofs.Steps.{open-page, open-site}
use Rattle.cells.specs.Located.{Located, located_in, located_of}
use Rattle.cells.proofs.Laws.{held, located-open, located-unopened}
use Rattle.guarded.specs.Guarded as guarded
use Rattle.guarded.proofs.Guard.{guarded_by, leaf-in, site-leaf, leaf-opened, guarded-in, guarded-open}
use Rattle.spilled.specs.Lent.{Spilled, whole, gathered, spilled_in, instead, lent_in, lent_of}
use Rattle.spills.specs.Spills.{spills}
use Rattle.marked.specs.Marked as marked
use Rattle.judged.specs.Agreement.{AsWithNone, Judged, GuardedRefuses, EveryOpenRefuses, GuardedAgrees}
use Rattle.spilled.proofs.Got.{spilled-told, lent-instead, lent-whole, lent-refused, lent-open, lent-unopened}
use Rattle.marked.proofs.Guarded.{marked-instead, marked-open, marked-unopened, lent-guarded}
use Rattle.answers.specs.declared.Mark.{Mark}
use Rattle.std.specs.Prelude.{Err, None, Ok, Option, Result, Some}

-- AN OPENED PAGE

module _ (o : Open) (i room : ℕ) (db : List ℕ) where
  spilled-judged : (x : Result Spilled Refusal) → ((c : Spilled) → x ≡ Ok c → c.page ≡ o.page)
      → Judged o.page i (x >>= (λ c. Ok (gathered c))) (Err (marked.marked_by i x))
  spilled-judged (Err other) same = (λ refusal e. cc, λ f mark e m. never cc, λ l e m. never cc)
  spilled-judged (Ok c) same = (
    λ refusal e. never cc,
    λ f mark e m.
        let g : gathered c ≡ f = cc in
        let h : Some (or_spilled (mark_of c.cell)) ≡ Some mark = rw (← g) at m in
        let k : or_spilled (mark_of c.cell) ≡ mark = cc in
        rw (k, same c refl),
    λ l e m. never cc,
  )

  -- a cell on its page, by its mark
  whole-judged : (l : Located) → l.opened ≡ o → (m : Option Mark) → mark_of l.cell ≡ m
      → Judged o.page i (Ok (whole l)) (instead (λ k. k) (Err (marked.marked_by i (spilled_in o i room db))) (guarded.unmarked i l m))
  whole-judged l same None t = (
    λ refusal e. never cc,
    λ f mark e m. let g : whole l ≡ f = cc in let h = sym t ∙ rw (← g) at m in never cc,
    λ k e m. cc,
  )
  whole-judged l same (Some n) t = (
    λ refusal e. never cc,
    λ f mark e m.
        let g : whole l ≡ f = cc in
        let h : Some n ≡ Some mark = sym t ∙ rw (← g) at m in
        let k : n ≡ mark = cc in
        rw (k, same),
    λ k e m. let g : l ≡ k = cc in let h = sym t ∙ rw (← g) at m in never cc,
  )

  by-located : (x : Result Located Refusal) → located_in o i db ≡ x
      → Judged o.page i (instead whole (spilled_in o i room db >>= (λ c. Ok (gathered c))) x)
      (instead (λ k. k) (Err (marked.marked_by i (spilled_in o i room db))) (guarded_by i x))
  by-located (Ok l) q = whole-judged l (held o i db q).opened (mark_of l.cell) refl
  by-located (Err refusal) q = by (spills refusal)
    where
      by : (t : Bool) → Judged o.page i (pick t (spilled_in o i room db >>= (λ c. Ok (gathered c))) (Err refusal))
          (pick t (Err (marked.marked_by i (spilled_in o i room db))) (Err refusal))
      by true = spilled-judged (spilled_in o i room db) (λ (c : Spilled) (e : spilled_in o i room db ≡ Ok c). (spilled-told o i room db e).page)
      by false = (λ other e. cc, λ f mark e m. never cc, λ l e m. never cc)

  pub every-judged : o.kind ≡ LeafTable → Judged o.page i (lent_in o i room db) (marked.lent_in o i room db)
  every-judged leaf =
      rw (lent-instead o i room db, marked-instead o i room db, leaf-in o i db (ap is_leaf_table leaf))
      (by-located (located_in o i db) refl)

pub every-open-refuses : EveryOpenRefuses
every-open-refuses o i room db leaf = every-judged o i room db leaf

-- A PAGE

pub guarded-refuses : GuardedRefuses
guarded-refuses number i room db s e k = go (open_from s db) refl
  where
    page : Page
    page = file_page number

    file-opened : open_of page db ≡ open_from s db
    file-opened = open-site page db e

    leaf-opens : guarded.open_of number db ≡ open_from s db
    leaf-opens = site-leaf number db e (ap is_leaf_table k)

    go : (x : Result Open Refusal) → open_from s db ≡ x → Judged page i (lent_of page i room db) (marked.lent_of number i room db)
    go (Err refusal) q =
        let a = lent-unopened page i room db (file-opened ∙ q) in
        let b = marked-unopened number i room db (leaf-opens ∙ q) in (
          λ other d. let z = sym a ∙ d in let y : refusal ≡ other = cc in b ∙ ap Err y,
          λ f mark d m. let z = sym a ∙ d in never cc,
          λ l d m. let z = sym a ∙ d in never cc,
        )
    go (Ok o) q =
        let a = lent-open page i room db (file-opened ∙ q) in
        let b = marked-open number i room db (leaf-opens ∙ q) in
        let leaf = (leaf-opened number db (leaf-opens ∙ q)).1 in
        rw (a, b) (subst (λ (p : Page). Judged p i (lent_in o i room db) (marked.lent_in o i room db)) (open-page page db (file-opened ∙ q)) (every-judged o i room db leaf))

pub as-with-none : AsWithNone
as-with-none page i room db = go (open_of page db) refl
  where
    go : (x : Result Open Refusal) → open_of page db ≡ x
        → ((l : Located) → located_of page i db ≡ Ok l → lent_of page i room db ≡ Ok (whole l))
        × ((refusal : Refusal) → located_of page i db ≡ Err refusal → spills refusal ≡ false → lent_of page i room db ≡ Err refusal)
    go (Err other) q =
        let a = located-unopened page i db q in
        let b = lent-unopened page i room db q in (
          λ l e. let z = sym a ∙ e in never cc,
          λ refusal e t. let z = sym a ∙ e in let y : other ≡ refusal = cc in b ∙ ap Err y,
        )
    go (Ok o) q =
        let a = sym (located-open page i db q) in
        let b = lent-open page i room db q in
        (λ l e. b ∙ lent-whole o i room db (a ∙ e), λ refusal e t. b ∙ lent-refused o i room db (a ∙ e) t)

pub guarded-agrees : GuardedAgrees
guarded-agrees number i room db l e = go (guarded.open_of number db) refl
  where
    go : (x : Result Open Refusal) → guarded.open_of number db ≡ x
        → (guarded.located_of number i db ≡ Ok l) × (lent_of (file_page number) i room db ≡ Ok (whole l))
    go (Err refusal) q = let z = sym (marked-unopened number i room db q) ∙ e in never cc
    go (Ok o) q =
        let is = lent-guarded i room db o (sym (marked-open number i room db q) ∙ e) in (
          guarded-open number i db q ∙ is,
          lent-open (file_page number) i room db (leaf-opened number db q).0 ∙ lent-whole o i room db (guarded-in o i db is).located,
        )
