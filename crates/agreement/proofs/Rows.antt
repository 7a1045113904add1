-- What a reading shows, by the cell that it locates: a row is shown of a located cell alone, and two lists of values are the
-- same exactly where they are so one by one.
use Prim.Native.Nat.{ℕ, zero, suc, ◌<◌}
use mathlib.Core.Path.{◌≡◌, refl, ap, fun_ext}
use mathlib.Core.List.{List}
use native.Mathlib.Omega.{arith}
use lib.IntN.{ℤ}
use Rattle.laws.proofs.Never.{never}
use Rattle.answers.specs.declared.Refusal.{Refusal}
use Rattle.record.specs.Types.{count}
use Rattle.place.specs.declared.Page.{Page}
use Rattle.place.specs.Place.{old_page, file_page}
use Rattle.cells.specs.Located.{Located, row_number, located_of}
use Rattle.row_head.specs.Head.{count_by, row_by}
use Rattle.row.specs.Column.{slot_then, column_by}
use Rattle.row_values.specs.Old as old-calls
use Rattle.row_values.specs.File as file-calls
use Rattle.row_head.proofs.Told.{count-located, row-located}
use Rattle.row_values.proofs.Told.{old-shown-located, file-shown-located}
use Rattle.guarded.specs.Guarded as guarded-calls
use Rattle.guarded.proofs.Calls.{guarded-count-located, guarded-row-located, guarded-shown-located}
use Rattle.agreement.specs.Shows.{Meaning, old_answer, file_answer, listed, Row, row, row_from, old_shows, file_shows, guarded_shows}
use Rattle.columns.specs.declared.Slot.{Slot}
use Rattle.std.specs.Prelude.{Err, Ok, Option, Result}

-- what stands in a slot of a page's cell
abbrev pub old_in : List ℕ → Page → Option Slot → Meaning
old_in db page slot = old_answer db (old-calls.shown_by db (slot_then page slot))

abbrev pub file_in : List ℕ → Page → Option Slot → Meaning
file_in db page slot = file_answer db (file-calls.shown_by db (slot_then page slot))

-- value k of a located cell
abbrev pub old_value : List ℕ → Result Located Refusal → ℕ → Meaning
old_value db x k = old_answer db (old-calls.shown_by db (column_by k x))

abbrev pub file_value : List ℕ → Result Located Refusal → ℕ → Meaning
file_value db x k = file_answer db (file-calls.shown_by db (column_by k x))

-- the row of a located cell
abbrev pub old_row : List ℕ → Result Located Refusal → Row
old_row db x = row_from (count_by x) (row_by x) (old_value db x)

abbrev pub file_row : List ℕ → Result Located Refusal → Row
file_row db x = row_from (count_by x) (row_by x) (file_value db x)

-- the three readings
module _ (page i : ℕ) (db : List ℕ) where
  pub old-is : old_shows page i db ≡ old_row db (located_of (old_page page) i db)
  unfolding old_shows
  old-is =
      let x = located_of (old_page page) i db in
      rw (count-located (old_page page) i db refl, row-located (old_page page) i db refl)
      (ap (row_from (count_by x) (row_by x)) (fun_ext (λ (k : ℕ). ap (old_answer db) (old-shown-located page i k db refl))))

  pub file-is : file_shows page i db ≡ file_row db (located_of (file_page page) i db)
  unfolding file_shows
  file-is =
      let x = located_of (file_page page) i db in
      rw (count-located (file_page page) i db refl, row-located (file_page page) i db refl)
      (ap (row_from (count_by x) (row_by x)) (fun_ext (λ (k : ℕ). ap (file_answer db) (file-shown-located page i k db refl))))

  pub guarded-is : guarded_shows page i db ≡ file_row db (guarded-calls.located_of page i db)
  unfolding guarded_shows
  guarded-is =
      let x = guarded-calls.located_of page i db in
      rw (guarded-count-located page i db refl, guarded-row-located page i db refl)
      (ap (row_from (count_by x) (row_by x)) (fun_ext (λ (k : ℕ). ap (file_answer db) (guarded-shown-located page i k db refl))))

-- a row that is shown
pub record Shown (x : Result Located Refusal) (value : ℕ → Meaning) (number : ℤ) (values : List Meaning) : Type 0 where
  pub l : Located
  pub is : x ≡ Ok l
  pub number_is : row_number l.cell.row.value ≡ number
  pub values-are : listed (count l.cell.types) value ≡ values

pub row-shown : (x : Result Located Refusal) (value : ℕ → Meaning) {number : ℤ} {values : List Meaning}
    → row_from (count_by x) (row_by x) value ≡ row number values → Shown x value number values
row-shown (Err refusal) value e = never cc
row-shown (Ok l) value e = record { l = l; is = refl; number_is = cc; values-are = cc }

-- LISTS

pub listed_same : (n : ℕ) (f g : ℕ → Meaning) → ((k : ℕ) → k < n → f k ≡ g k) → listed n f ≡ listed n g
listed_same zero f g h = refl
listed_same (suc n) f g h =
    let a = h 0 (omega arith) in
    let b = listed_same n (λ k. f (suc k)) (λ k. g (suc k)) (λ k l. h (suc k) (omega arith)) in
    cc

pub same_count : (n m : ℕ) (f g : ℕ → Meaning) → listed n f ≡ listed m g → n ≡ m
same_count zero zero f g e = refl
same_count zero (suc m) f g e = never cc
same_count (suc n) zero f g e = never cc
same_count (suc n) (suc m) f g e = ap suc (same_count n m (λ k. f (suc k)) (λ k. g (suc k)) cc)

pub same-each : (n m : ℕ) (f g : ℕ → Meaning) → listed n f ≡ listed m g → (k : ℕ) → k < n → k < m → f k ≡ g k
same-each zero m f g e k i j = absurd (omega arith)
same-each (suc n) zero f g e k i j = absurd (omega arith)
same-each (suc n) (suc m) f g e zero i j = cc
same-each (suc n) (suc m) f g e (suc k) i j = same-each n m (λ j. f (suc j)) (λ j. g (suc j)) (cc) k (omega arith) (omega arith)
