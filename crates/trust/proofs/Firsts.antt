-- The first refused row of a list: of its beginning, or else of what comes behind.
use Prim.Native.Nat.{ℕ, ◌+◌, ◌-◌, ◌≤◌, ◌<◌}
use mathlib.Core.Path.{◌≡◌, refl, ap, ◌∙◌}
use mathlib.Core.List.{List, [], ◌∷◌, ◌++◌}
use Rattle.std.specs.Prelude.{Err, None, Ok, Option, Result, Some}
use Rattle.laws.proofs.Never.{never}
use Rattle.answers.specs.declared.Refusal.{Refusal}
use Rattle.place.specs.declared.Page.{Page}
use Rattle.place.specs.Place.{file_page}
use Rattle.page.specs.declared.Open.{Open}
use Rattle.page.proofs.Steps.{open-page}
use Rattle.cells.specs.Located.{Located}
use Rattle.cells.specs.Numbered.{numbers_in}
use Rattle.row.specs.declared.FoundCell.{FoundCell}
use Rattle.row.specs.Found.{found_by}
use Rattle.guarded.specs.Guarded.{located_in, located_of}
use Rattle.guarded.proofs.Guard.{leaf-opens, guarded-open}
use Rattle.trace.specs.declared.Table.TheVariants.{Leaf}
use Rattle.trace.specs.Walk.{Row, rows_of}
use Rattle.trace.specs.Table.{table_at, last_child}
use Rattle.trace.specs.Tree.{table_of}
use Rattle.trace.proofs.Pages.{table-opens}
use Rattle.walk.specs.Counted.{count_of}
use Rattle.standing.specs.Rows.{child_by, leaf_rows, child_rows}
use Rattle.standing.proofs.Steps.{leaf-next, leaf-none, child-next, child-last}
use Rattle.trust.specs.declared.Trust.TheVariants.{Parts, Agrees}
use Rattle.trust.specs.Trust.{first_by, first_refused, trust_by, trust_of}

module _ (db : List ℕ) where
  -- ONE LIST BEHIND ANOTHER

  first-behind : (some rest : List Row) → first_refused db some ≡ None → first_refused db (some ++ rest) ≡ first_refused db rest
  first-behind [] rest e = refl
  first-behind (r ∷ some) rest e = go (located_of r.page r.cell db) e (first-behind some rest)
    where
      go : (x : Result Located Refusal) → first_by x (first_refused db some) ≡ None
          → (first_refused db some ≡ None → first_refused db (some ++ rest) ≡ first_refused db rest) → first_by x (first_refused db (some ++ rest)) ≡ first_refused db rest
      go (Err refusal) d f = never cc
      go (Ok l) d f = f d

  first-before : (some rest : List Row) {refusal : Refusal} → first_refused db some ≡ Some refusal → first_refused db (some ++ rest) ≡ Some refusal
  first-before [] rest e = never cc
  first-before (r ∷ some) rest {refusal} e = go (located_of r.page r.cell db) e (first-before some rest)
    where
      go : (x : Result Located Refusal) → first_by x (first_refused db some) ≡ Some refusal
          → (first_refused db some ≡ Some refusal → first_refused db (some ++ rest) ≡ Some refusal) → first_by x (first_refused db (some ++ rest)) ≡ Some refusal
      go (Err other) d f = d
      go (Ok l) d f = f d

  -- A LEAF

  -- a cell of a leaf, by the page that is opened
  located-leaf : (o : Open) (i : ℕ) → table_at o.page.number db ≡ Ok (Leaf o) → located_of o.page.number i db ≡ located_in o i db
  located-leaf o i e =
      let opens = table-opens o.page.number db e in
      guarded-open o.page.number i db (leaf-opens o.page.number db opens.0 opens.1)

  module _ (o : Open) (leaf : table_at o.page.number db ≡ Ok (Leaf o)) (cells i : ℕ) (h : i < cells) where
    -- what is behind cell i, and cell i before it
    abbrev behind : Option Refusal
    behind = first_refused db (leaf_rows o db (cells - (i + 1)) (i + 1))

    cell-first : first_refused db (leaf_rows o db (cells - i) i) ≡ first_by (located_in o i db) behind
    cell-first = ap (first_refused db) (leaf-next o db cells i h) ∙ ap (λ (x : Result Located Refusal). first_by x behind) (located-leaf o i leaf)

    pub leaf-refused : {refusal : Refusal} → found_by (located_in o i db) ≡ Err refusal → first_refused db (leaf_rows o db (cells - i) i) ≡ Some refusal
    leaf-refused {refusal} e = cell-first ∙ go (located_in o i db) e
      where
        go : (x : Result Located Refusal) → found_by x ≡ Err refusal → first_by x behind ≡ Some refusal
        go (Err r) d = cc
        go (Ok l) d = never cc

    pub leaf-shown : {found : FoundCell} → found_by (located_in o i db) ≡ Ok found → first_refused db (leaf_rows o db (cells - i) i) ≡ behind
    leaf-shown {found} e = cell-first ∙ go (located_in o i db) e
      where
        go : (x : Result Located Refusal) → found_by x ≡ Ok found → first_by x behind ≡ behind
        go (Err r) d = never cc
        go (Ok l) d = refl

  pub leaf-done : (o : Open) (cells i : ℕ) → cells ≤ i → first_refused db (leaf_rows o db (cells - i) i) ≡ None
  leaf-done o cells i h = ap (first_refused db) (leaf-none o db cells i h)

  -- CHILDREN

  module _ (under : ℕ → List Row) (o : Open) (cells i : ℕ) where
    -- the rows of child i, and those behind them
    abbrev child : List Row
    child = under (child_by (numbers_in o i db))

    abbrev rest : List Row
    rest = child_rows under o db (cells - (i + 1)) (i + 1)

    pub child-refused : i < cells → {refusal : Refusal} → first_refused db child ≡ Some refusal
        → first_refused db (child_rows under o db (cells - i) i) ≡ Some refusal
    child-refused h e = ap (first_refused db) (child-next o db cells i under h) ∙ first-before child rest e

    pub child-shown : i < cells → first_refused db child ≡ None → first_refused db (child_rows under o db (cells - i) i) ≡ first_refused db rest
    child-shown h e = ap (first_refused db) (child-next o db cells i under h) ∙ first-behind child rest e

    pub child-done : cells ≤ i → first_refused db (child_rows under o db (cells - i) i) ≡ first_refused db (under (last_child o db))
    child-done h = ap (first_refused db) (child-last o db cells i under h)

  -- a page that is a leaf is so under its own number
  pub leaf-named : (n : ℕ) {o : Open} → table_at n db ≡ Ok (Leaf o) → table_at o.page.number db ≡ Ok (Leaf o)
  leaf-named n {o} e =
      let named = ap (λ (x : Page). x.number) (open-page (file_page n) db (table-opens n db e).0) in
      ap (λ (k : ℕ). table_at k db) named ∙ e

-- THE TABLE

module _ (root : ℕ) (db : List ℕ) where
  pub trust-refused : {refusal : Refusal} → count_of root db ≡ Err refusal → trust_of root db ≡ Err refusal
  unfolding trust_of
  trust-refused e = rw e

  pub trust-agrees : {n : ℕ} → count_of root db ≡ Ok n → first_refused db (rows_of (table_of root db)) ≡ None → trust_of root db ≡ Ok (Agrees n)
  unfolding trust_of
  trust-agrees e f = rw (e, f)

  pub trust-parts : {n : ℕ} {refusal : Refusal} → count_of root db ≡ Ok n → first_refused db (rows_of (table_of root db)) ≡ Some refusal
      → trust_of root db ≡ Ok (Parts n refusal)
  unfolding trust_of
  trust-parts e f = rw (e, f)

  -- a table that is not refused was counted
  pub agrees-counted : {n : ℕ} → trust_of root db ≡ Ok (Agrees n) → (count_of root db ≡ Ok n) × (first_refused db (rows_of (table_of root db)) ≡ None)
  unfolding trust_of
  agrees-counted {n} e = go (count_of root db) (first_refused db (rows_of (table_of root db))) refl refl e
    where
      go : (x : Result ℕ Refusal) (f : Option Refusal) → count_of root db ≡ x → first_refused db (rows_of (table_of root db)) ≡ f → trust_by x f ≡ Ok (Agrees n)
          → (count_of root db ≡ Ok n) × (first_refused db (rows_of (table_of root db)) ≡ None)
      go (Err r) f q p d = never cc
      go (Ok m) None q p d = let i : m ≡ n = cc in (q ∙ ap Ok i, p)
      go (Ok m) (Some r) q p d = never cc
