-- A row that is shown has all its values, in each of the readings.
use Prim.Native.Nat.{ℕ, zero, suc, ◌<◌}
use mathlib.Core.Path.{sym, ap, subst, ◌∙◌}
use mathlib.Core.List.{List}
use native.Mathlib.Omega.{arith}
use lib.IntN.{ℤ}
use lib.ListN.{drop}
use Rattle.answers.specs.declared.Refusal.{Refusal}
use Rattle.values.specs.Old as old
use Rattle.values.specs.File as file
use Rattle.values.specs.declared.old.Value as ov
use Rattle.values.specs.declared.old.Value.TheVariants as ol
use Rattle.values.specs.declared.file.Value as fv
use Rattle.values.specs.declared.file.Value.TheVariants as fi
use Rattle.record.specs.Types.{count, nth_type}
use Rattle.place.specs.Place.{old_page, file_page}
use Rattle.cells.specs.Located as cells
use Rattle.cells.specs.Located.{Located}
use Rattle.row.proofs.Placed.{Placed, placed}
use Rattle.guarded.specs.Guarded.{located_of}
use Rattle.agreement.specs.Shows.{Meaning, old_means, file_means, listed}
use Rattle.agreement.specs.Agreement.{IsValue, AllValues, EachShown}
use Rattle.guarded.proofs.Along.{file-located}
use Rattle.agreement.proofs.Columns.{stands}
use Rattle.agreement.proofs.Rows.{old_in, file_in, old_value, file_value, old-is, file-is, guarded-is, Shown, row-shown}
use Rattle.std.specs.Prelude.{Ok, Result}

old-value : (db : List ℕ) (v : ov.Value) → IsValue (old_means db v)
old-value db ol.Null = tt
old-value db (ol.I8 n) = tt
old-value db (ol.I16 n) = tt
old-value db (ol.I32 n) = tt
old-value db (ol.I64 n) = tt
old-value db (ol.F64 number bits) = tt
old-value db (ol.Blob at len) = tt
old-value db (ol.Text at len) = tt

file-value : (db : List ℕ) (v : fv.Value) → IsValue (file_means db v)
file-value db fi.Null = tt
file-value db (fi.Integer n) = tt
file-value db (fi.Real number bits) = tt
file-value db (fi.Blob at len) = tt
file-value db (fi.Text at len) = tt

all_listed : (n : ℕ) (f : ℕ → Meaning) → ((k : ℕ) → k < n → IsValue (f k)) → AllValues (listed n f)
all_listed zero f h = tt
all_listed (suc n) f h = (h 0 (omega arith), all_listed n (λ k. f (suc k)) (λ k l. h (suc k) (omega arith)))

-- the values of a cell that lies in the bytes
module _ (db : List ℕ) {l : Located} (there : Placed l db) (k : ℕ) (h : k < count l.cell.types) where
  old-each : IsValue (old_value db (Ok l) k)
  old-each =
      let s = stands there k h in
      subst IsValue (sym (ap (old_in db l.opened.page) s.is)) (old-value db (old.value_of (nth_type k l.cell.types) s.at (drop s.at db)))

  file-each : IsValue (file_value db (Ok l) k)
  file-each =
      let s = stands there k h in
      subst IsValue (sym (ap (file_in db l.opened.page) s.is)) (file-value db (file.value_of (nth_type k l.cell.types) s.at (drop s.at db)))

all-values : (value : Result Located Refusal → ℕ → Meaning) (x : Result Located Refusal) {number : ℤ} {values : List Meaning} (r : Shown x (value x) number values)
    → ((k : ℕ) → k < count r.l.cell.types → IsValue (value (Ok r.l) k)) → AllValues values
all-values value x r each =
    rw (← r.values-are) (all_listed (count r.l.cell.types) (value x) (λ k h. subst (λ (y : Result Located Refusal). IsValue (value y k)) (sym r.is) (each k h)))

pub each-shown : EachShown
each-shown number i db row_number values = (
  λ e.
      let x = cells.located_of (old_page number) i db in
      let r = row-shown x (old_value db x) (sym (old-is number i db) ∙ e) in
      all-values (old_value db) x r (old-each db (placed (old_page number) i db r.is)),
  λ e.
      let x = cells.located_of (file_page number) i db in
      let r = row-shown x (file_value db x) (sym (file-is number i db) ∙ e) in
      all-values (file_value db) x r (file-each db (placed (file_page number) i db r.is)),
  λ e.
      let x = located_of number i db in
      let r = row-shown x (file_value db x) (sym (guarded-is number i db) ∙ e) in
      all-values (file_value db) x r (file-each db (placed (file_page number) i db (file-located number i db r.is))),
)
