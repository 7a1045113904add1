-- What the guarded reading locates: the cell that the page's reading locates on a table leaf, where its record has no mark.
use Prim.Native.Nat.{ℕ}
use mathlib.Core.Path.{◌≡◌, refl, sym, ap, subst, ◌∙◌}
use mathlib.Core.List.{List}
use mathlib.Core.Bool.{Bool, true, false}
use Rattle.laws.specs.Pick.{pick}
use Rattle.laws.proofs.Never.{never}
use Rattle.answers.specs.declared.Reason.TheVariants as re
use Rattle.answers.specs.declared.Refusal.{Refusal}
use Rattle.answers.specs.Answer.{◌>>=◌}
use Rattle.kinds.specs.declared.Kind.{Kind}
use Rattle.kinds.specs.declared.Kind.TheVariants.{InteriorIndex, InteriorTable, LeafIndex, LeafTable}
use Rattle.kinds.specs.Kind.{is_leaf_table}
use Rattle.marks.specs.Marks.{mark_of}
use Rattle.place.specs.Place.{file_page}
use Rattle.site.specs.declared.Site.{Site}
use Rattle.page.specs.declared.Open.{Open}
use Rattle.page.specs.Open as page
use Rattle.site.specs.Site.{on_page, site_of}
use Rattle.page.specs.Open.{open_from}
use Rattle.page.proofs.Steps.{opening, open-site, steps}
use Rattle.cells.specs.Located as cells
use Rattle.cells.specs.Located.{Located}
use Rattle.cells.proofs.Laws.{located-open, located-unopened}
use Rattle.row.proofs.Placed.{Placed, placed-in}
use Rattle.guarded.specs.Guarded.{leaf_only, open_of, unmarked, located_in, located_of}
use Rattle.answers.specs.declared.Mark.{Mark}
use Rattle.std.specs.Prelude.{Err, None, Ok, Option, Result, Some}

-- THE KIND

leaf-kind : (k : Kind) → is_leaf_table k ≡ true → k ≡ LeafTable
leaf-kind InteriorIndex e = never cc
leaf-kind InteriorTable e = never cc
leaf-kind LeafIndex e = never cc
leaf-kind LeafTable e = refl

-- A PAGE

module _ (n : ℕ) (db : List ℕ) where
  pub site-refused : {refusal : Refusal} → site_of (file_page n) db ≡ Err refusal → open_of n db ≡ Err refusal
  unfolding open_of
  site-refused e = rw e

  module _ {s : Site} (e : site_of (file_page n) db ≡ Ok s) where
    pub site-other : is_leaf_table s.kind ≡ false → open_of n db ≡ on_page s.page re.KindUnfit
    unfolding open_of
    site-other t = rw (e, t)

    pub site-leaf : is_leaf_table s.kind ≡ true → open_of n db ≡ open_from s db
    unfolding open_of
    site-leaf t = rw (e, t)

  -- one that is opened is a table leaf, as the file reading opens it
  pub leaf-opened : {o : Open} → open_of n db ≡ Ok o → (page.open_of (file_page n) db ≡ Ok o) × (o.kind ≡ LeafTable)
  unfolding open_of
  leaf-opened {o} e = by-site (site_of (file_page n) db) refl e
    where
      by_kind : (s : Site) → site_of (file_page n) db ≡ Ok s → (b : Bool) → is_leaf_table s.kind ≡ b
          → (pick b (Ok s) (on_page s.page re.KindUnfit) >>= (λ leaf. open_from leaf db)) ≡ Ok o
          → (page.open_of (file_page n) db ≡ Ok o) × (o.kind ≡ LeafTable)
      by_kind s i false t d = never cc
      by_kind s i true t d = (open-site (file_page n) db i ∙ d, rw (opening s db d).is (leaf-kind s.kind t))

      by-site : (x : Result Site Refusal) → site_of (file_page n) db ≡ x
          → (x >>= (λ site. leaf_only site.page site.kind site >>= (λ leaf. open_from leaf db))) ≡ Ok o
          → (page.open_of (file_page n) db ≡ Ok o) × (o.kind ≡ LeafTable)
      by-site (Err refusal) i d = never cc
      by-site (Ok s) i d = by_kind s i (is_leaf_table s.kind) refl d

  -- and a table leaf that the file reading opens is opened
  pub leaf-opens : {o : Open} → page.open_of (file_page n) db ≡ Ok o → o.kind ≡ LeafTable → open_of n db ≡ Ok o
  leaf-opens e k =
      let t = steps (file_page n) db e in
      let kind = ap (λ (x : Open). x.kind) (opening t.site db t.second).is in
      site-leaf t.first (ap is_leaf_table (sym kind ∙ k)) ∙ t.second

-- A CELL OF IT

-- a located cell by its mark
abbrev pub guarded_by : ℕ → Result Located Refusal → Result Located Refusal
guarded_by i x = x >>= (λ l. unmarked i l (mark_of l.cell))

-- what is so of a cell that the guarded reading locates
pub record Guarded (o : Open) (i : ℕ) (db : List ℕ) (l : Located) : Type 0 where
  pub leaf : o.kind ≡ LeafTable
  pub located : cells.located_in o i db ≡ Ok l
  pub clear : mark_of l.cell ≡ None

module _ (o : Open) (i : ℕ) (db : List ℕ) where
  pub other-in : is_leaf_table o.kind ≡ false → located_in o i db ≡ on_page o.page re.KindUnfit
  unfolding located_in
  other-in t = rw t

  pub leaf-in : is_leaf_table o.kind ≡ true → located_in o i db ≡ guarded_by i (cells.located_in o i db)
  unfolding located_in
  leaf-in t = rw t

  pub guarded-in : {l : Located} → located_in o i db ≡ Ok l → Guarded o i db l
  unfolding located_in
  guarded-in {l} e = by_kind (is_leaf_table o.kind) refl e
    where
      by-mark : o.kind ≡ LeafTable → (x : Located) → cells.located_in o i db ≡ Ok x → (m : Option Mark) → mark_of x.cell ≡ m
          → unmarked i x m ≡ Ok l → Guarded o i db l
      by-mark k x q (Some mark) t d = never cc
      by-mark k x q None t d =
          let f : x ≡ l = cc in
          record { leaf = k; located = q ∙ d; clear = subst (λ (y : Located). mark_of y.cell ≡ None) f t }

      by-cell : o.kind ≡ LeafTable → (x : Result Located Refusal) → cells.located_in o i db ≡ x → guarded_by i x ≡ Ok l → Guarded o i db l
      by-cell k (Err refusal) q d = never cc
      by-cell k (Ok x) q d = by-mark k x q (mark_of x.cell) refl d

      by_kind : (b : Bool) → is_leaf_table o.kind ≡ b
          → (pick b (Ok o) (on_page o.page re.KindUnfit) >>= (λ leaf. guarded_by i (cells.located_in leaf i db))) ≡ Ok l → Guarded o i db l
      by_kind false t d = never cc
      by_kind true t d = by-cell (leaf-kind o.kind t) (cells.located_in o i db) refl d

  pub guarded-again : {l : Located} → Guarded o i db l → located_in o i db ≡ Ok l
  guarded-again {l} g = leaf-in (ap is_leaf_table g.leaf) ∙ ap (guarded_by i) g.located ∙ ap (unmarked i l) g.clear

-- A CELL OF A PAGE

pub record Opens (n i : ℕ) (db : List ℕ) (l : Located) : Type 0 where
  pub o : Open
  pub opened : page.open_of (file_page n) db ≡ Ok o
  pub is : Guarded o i db l

module _ (n i : ℕ) (db : List ℕ) where
  pub guarded-unopened : {refusal : Refusal} → open_of n db ≡ Err refusal → located_of n i db ≡ Err refusal
  unfolding located_of
  guarded-unopened e = rw e

  pub guarded-open : {o : Open} → open_of n db ≡ Ok o → located_of n i db ≡ located_in o i db
  unfolding located_of
  guarded-open e = rw e

  pub guarded : {l : Located} → located_of n i db ≡ Ok l → Opens n i db l
  unfolding located_of
  guarded {l} e = go (open_of n db) refl e
    where
      go : (x : Result Open Refusal) → open_of n db ≡ x → (x >>= (λ o. located_in o i db)) ≡ Ok l → Opens n i db l
      go (Err refusal) q d = never cc
      go (Ok o) q d = record { o = o; opened = (leaf-opened n db q).0; is = guarded-in o i db d }

  pub guarded-placed : {l : Located} → located_of n i db ≡ Ok l → Placed l db
  guarded-placed e = let g = guarded e in placed-in g.o i db g.is.located

  -- on a table leaf, the file reading's cell by its mark
  pub on-leaf : {s : Site} → site_of (file_page n) db ≡ Ok s → s.kind ≡ LeafTable → located_of n i db ≡ guarded_by i (cells.located_of (file_page n) i db)
  on-leaf {s} e k = go (open_from s db) refl
    where
      leaf : is_leaf_table s.kind ≡ true
      leaf = ap is_leaf_table k

      go : (x : Result Open Refusal) → open_from s db ≡ x → located_of n i db ≡ guarded_by i (cells.located_of (file_page n) i db)
      go (Err refusal) q =
          guarded-unopened (site-leaf n db e leaf ∙ q)
          ∙ sym (ap (guarded_by i) (located-unopened (file_page n) i db (open-site (file_page n) db e ∙ q)))
      go (Ok o) q =
          let f : is_leaf_table o.kind ≡ true = rw (opening s db q).is leaf in
          guarded-open (site-leaf n db e leaf ∙ q) ∙ leaf-in o i db f
          ∙ sym (ap (guarded_by i) (located-open (file_page n) i db (open-site (file_page n) db e ∙ q)))
