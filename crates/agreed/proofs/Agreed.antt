-- The theorems: by the row that the guarded reading shows or refuses, by the first that it refuses, and by the three answers.
--
-- The theorems are on what the call is defined to answer, by the count of the walk and the first row that is refused, and so unfold it.
use Prim.Native.Nat.{ℕ}
use mathlib.Core.Path.{◌≡◌, refl, ap, subst, ◌∙◌}
use mathlib.Core.List.{List, [], ◌∷◌}
use mathlib.Core.Bool.{Bool, true, false}
use mathlib.Core.Logic.{◌⊎◌, inl, inr}
use lib.Dec.{ltb}
use lib.IntN.{ℤ}
use Rattle.std.specs.Prelude.{Err, None, Ok, Option, Result, Some}
use Rattle.laws.specs.Pick.{pick}
use Rattle.laws.proofs.Never.{never}
use Rattle.answers.specs.declared.Refusal.{Refusal}
use Rattle.record.specs.Types.{count}
use Rattle.place.specs.Place.{file_page}
use Rattle.cells.specs.Located.{Located}
use Rattle.cells.proofs.Laws.{located-open}
use Rattle.guarded.specs.Guarded.{located_of}
use Rattle.guarded.proofs.Guard.{guarded}
use Rattle.trace.specs.Walk.{Row, rows_of}
use Rattle.trace.specs.Tree.{table_of}
use Rattle.walk.specs.Counted.{count_of}
use Rattle.agreement.specs.Shows.{Meaning, row, none, listed, guarded_shows}
use Rattle.agreement.proofs.Rows.{file_value, file_row, guarded-is}
use Rattle.agreement.proofs.Agrees.{guarded-agrees}
use Rattle.trust.specs.Trust.{first_by, first_refused, trust_by, counted_by, trust_of}
use Rattle.trees.specs.Trees.{Cell, Each}
use Rattle.trees.proofs.Places.{are-cells}
use Rattle.listing.specs.Listed.{too_short, within, trusted_by}
use Rattle.agreed.specs.Agreed.{Same, TrustedAgrees, IsRow, NoneRefused, Exactly, GivenExactly, FirstRefused, IsShown, Told, RefusedFirst}

-- ONE ROW

module _ (db : List ℕ) (r : Row) where
  shown-row : {l : Located} → located_of r.page r.cell db ≡ Ok l → IsRow (guarded_shows r.page r.cell db)
  shown-row e = rw (guarded-is r.page r.cell db ∙ ap (file_row db) e) tt

  refused-row : {refusal : Refusal} → located_of r.page r.cell db ≡ Err refusal → guarded_shows r.page r.cell db ≡ none refusal
  refused-row e = guarded-is r.page r.cell db ∙ ap (file_row db) e

  abbrev values : Located → List Meaning
  values l = listed (count l.cell.types) (file_value db (Ok l))

  -- a row of the walk that the guarded reading shows
  same_row : Cell db r → {l : Located} → located_of r.page r.cell db ≡ Ok l → Same db r
  same_row c {l} e =
      let g = guarded r.page r.cell db e in
      let number = c.shows l (located-open (file_page r.page) r.cell db g.opened ∙ g.is.located) in
      let shows = guarded-is r.page r.cell db ∙ ap (file_row db) e ∙ ap (λ (z : ℤ). row z (values l)) number in
      let both = guarded-agrees r.page r.cell db r.number (values l) shows in
      record { values = values l; guarded = shows; file = both.1; old = both.0 }

-- THE FIRST THAT IS REFUSED

module _ (db : List ℕ) where
  none-refused : (rows : List Row) → first_refused db rows ≡ None → NoneRefused db rows
  none-refused [] e = tt
  none-refused (r ∷ rows) e = go (located_of r.page r.cell db) refl e (none-refused rows)
    where
      go : (x : Result Located Refusal) → located_of r.page r.cell db ≡ x → first_by x (first_refused db rows) ≡ None
          → (first_refused db rows ≡ None → NoneRefused db rows) → NoneRefused db (r ∷ rows)
      go (Err refusal) q d f = never cc
      go (Ok l) q d f = (shown-row db r q, f d)

  refused_none : (rows : List Row) → NoneRefused db rows → first_refused db rows ≡ None
  refused_none [] h = refl
  refused_none (r ∷ rows) h = go (located_of r.page r.cell db) refl (refused_none rows h.1)
    where
      go : (x : Result Located Refusal) → located_of r.page r.cell db ≡ x → first_refused db rows ≡ None → first_by x (first_refused db rows) ≡ None
      go (Err refusal) q f = absurd (subst IsRow (refused-row db r q) h.0)
      go (Ok l) q f = f

  first-told : (rows : List Row) {refusal : Refusal} → first_refused db rows ≡ Some refusal → FirstRefused db refusal rows
  first-told [] e = never cc
  first-told (r ∷ rows) {refusal} e = go (located_of r.page r.cell db) refl e (first-told rows)
    where
      go : (x : Result Located Refusal) → located_of r.page r.cell db ≡ x → first_by x (first_refused db rows) ≡ Some refusal
          → (first_refused db rows ≡ Some refusal → FirstRefused db refusal rows) → FirstRefused db refusal (r ∷ rows)
      go (Err other) q d f = inl (refused-row db r q ∙ cc)
      go (Ok l) q d f = inr (shown-row db r q, f d)

  same_rows : (rows : List Row) → Each (Cell db) rows → first_refused db rows ≡ None → Each (Same db) rows
  same_rows [] c e = tt
  same_rows (r ∷ rows) c e = go (located_of r.page r.cell db) refl e (same_rows rows c.1)
    where
      go : (x : Result Located Refusal) → located_of r.page r.cell db ≡ x → first_by x (first_refused db rows) ≡ None
          → (first_refused db rows ≡ None → Each (Same db) rows) → Each (Same db) (r ∷ rows)
      go (Err refusal) q d f = never cc
      go (Ok l) q d f = (same_row db r c.0 q, f d)

-- THE ANSWERS, by what the walk counts and the first row that is refused

module _ (db : List ℕ) (rows : List Row) (places root : ℕ) where
  given : (x : Result ℕ Refusal) (f : Option Refusal) → first_refused db rows ≡ f → Exactly db rows (within places root x) (trusted_by places root (trust_by x f))
  given (Err r) f e n = ((λ d. never cc), λ d h. never cc)
  given (Ok m) None e n = ((λ d. (d, none-refused db rows e)), λ d h. d)
  given (Ok m) (Some r) e n = (go (ltb places m), λ d h. let none = refused_none db rows h in never cc)
    where
      go : (b : Bool) → pick b (too_short root) (Err r) ≡ Ok n → (pick b (too_short root) (Ok m) ≡ Ok n) × NoneRefused db rows
      go true d = never cc
      go false d = never cc

  told : (x : Result ℕ Refusal) (f : Option Refusal) → first_refused db rows ≡ f → Told db rows (within places root x) (trusted_by places root (trust_by x f))
  told (Err r) f e refusal d = inl d
  told (Ok m) None e refusal d = inl d
  told (Ok m) (Some r) e refusal d = go (ltb places m) d
    where
      go : (b : Bool) → pick b (too_short root) (Err r) ≡ Err refusal
          → (pick b (too_short root) (Ok m) ≡ Err refusal) ⊎ (IsShown (pick b (too_short root) (Ok m)) × FirstRefused db refusal rows)
      go true d = inl d
      go false d = let same : r ≡ refusal = cc in inr (tt, first-told db rows (e ∙ ap Some same))

module _ (db : List ℕ) (rows : List Row) where
  given-count : (x : Result ℕ Refusal) (f : Option Refusal) → first_refused db rows ≡ f → Exactly db rows x (counted_by (trust_by x f))
  given-count (Err r) f e n = ((λ d. never cc), λ d h. never cc)
  given-count (Ok m) None e n = ((λ d. (d, none-refused db rows e)), λ d h. d)
  given-count (Ok m) (Some r) e n = ((λ d. never cc), λ d h. let none = refused_none db rows h in never cc)

  told-count : (x : Result ℕ Refusal) (f : Option Refusal) → first_refused db rows ≡ f → Told db rows x (counted_by (trust_by x f))
  told-count (Err r) f e refusal d = inl d
  told-count (Ok m) None e refusal d = never cc
  told-count (Ok m) (Some r) e refusal d = let same : r ≡ refusal = cc in inr (tt, first-told db rows (e ∙ ap Some same))

-- THE THEOREMS

pub given-exactly : GivenExactly
unfolding trust_of
given-exactly places root db =
    let rows = rows_of (table_of root db) in
    (given db rows places root (count_of root db) (first_refused db rows) refl, given-count db rows (count_of root db) (first_refused db rows) refl)

pub refused-first : RefusedFirst
unfolding trust_of
refused-first places root db =
    let rows = rows_of (table_of root db) in
    (told db rows places root (count_of root db) (first_refused db rows) refl, told-count db rows (count_of root db) (first_refused db rows) refl)

pub trusted-agrees : TrustedAgrees
trusted-agrees places root db n e =
    let rows = rows_of (table_of root db) in
    same_rows db rows (are-cells root db) (refused_none db rows (((given-exactly places root db).0 n).0 e).1)
