-- A page of a table, taken apart: it is opened, and of its kind.
use Prim.Native.Nat.{ℕ, ◌≤◌}
use mathlib.Core.Path.{◌≡◌, refl, subst}
use mathlib.Core.List.{List}
use native.Mathlib.Omega.{arith}
use lib.ListN.{length}
use Rattle.std.specs.Prelude.{Err, Ok, Result}
use Rattle.answers.specs.declared.Refusal.{Refusal}
use Rattle.kinds.specs.declared.Kind.{Kind}
use Rattle.kinds.specs.declared.Kind.TheVariants.{InteriorIndex, InteriorTable, LeafIndex, LeafTable}
use Rattle.place.specs.Place.{file_page}
use Rattle.page.specs.declared.Open.{Open}
use Rattle.page.specs.Open.{open_of}
use Rattle.page.proofs.Steps.{open-fits}
use Rattle.trace.specs.declared.Table.TheVariants.{Leaf, Interior}
use Rattle.trace.specs.Table.{table_by, table_for, table_at}
use Rattle.trace.specs.declared.Table.{Table}

-- what an opened page of that number is of, by what it is to a walk
abbrev pub Opens : ℕ → List ℕ → Result Table Refusal → Type 0
Opens n db (Err r) = Unit
Opens n db (Ok (Leaf o)) = (open_of (file_page n) db ≡ Ok o) × (o.kind ≡ LeafTable)
Opens n db (Ok (Interior o)) = (open_of (file_page n) db ≡ Ok o) × (o.kind ≡ InteriorTable)

pub table-opens : (n : ℕ) (db : List ℕ) {t : Result Table Refusal} → table_at n db ≡ t → Opens n db t
unfolding table_at
table-opens n db e = subst (Opens n db) e (by-page (open_of (file_page n) db) refl)
  where
    by_kind : (o : Open) → open_of (file_page n) db ≡ Ok o → (k : Kind) → o.kind ≡ k → Opens n db (table_by k o)
    by_kind o q InteriorIndex e = tt
    by_kind o q InteriorTable e = (q, e)
    by_kind o q LeafIndex e = tt
    by_kind o q LeafTable e = (q, e)

    by-page : (x : Result Open Refusal) → open_of (file_page n) db ≡ x → Opens n db (table_for x)
    by-page (Err r) q = tt
    by-page (Ok o) q = by_kind o q o.kind refl

-- it has no more cells than the database has bytes
pub few-cells : (n : ℕ) (db : List ℕ) {o : Open} → open_of (file_page n) db ≡ Ok o → o.cells ≤ length db
few-cells n db e = let f = open-fits (file_page n) db e in omega (arith, f.there, f.short, f.pointers)
