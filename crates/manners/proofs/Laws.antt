-- The values by a manner are those of its reading.
--
-- `manner-shows` holds the table of a manner against those of both readings, type by type, and so unfolds them: laws of `values`
-- for that would be a line for each type in each reading, which is the tables again.
use Prim.Native.Nat.{ℕ, zero, suc, ◌≤◌, ◌<◌}
use mathlib.Core.Path.{◌≡◌, refl, sym, ap, ◌∙◌}
use mathlib.Core.Bool.{Bool, true, false}
use mathlib.Core.List.{List}
use native.Mathlib.Omega.{arith}
use lib.Dec.{ltb, eqb}
use lib.ListN.{drop, get_or}
use borrow.Author.Tests.{le-ltb, ne_eqb}
use Rattle.laws.specs.Pick.{pick}
use Rattle.tables.specs.Tables.{widths}
use Rattle.reading.specs.declared.Reading.{Reading}
use Rattle.reading.specs.declared.Reading.TheVariants.{Old as old, File as file}
use Rattle.serial.specs.Serial.{is_blob, length_of, width_of}
use Rattle.serial.proofs.Laws.{width_small}
use Rattle.values.specs.declared.old.Value.TheVariants as ov
use Rattle.values.specs.declared.file.Value.TheVariants as fv
use Rattle.values.specs.Old as old-values
use Rattle.values.specs.File as file-values
use Rattle.values.proofs.Laws.{no_bytes, old-long, file-long}
use Rattle.turns.specs.declared.types.Value.{Value}
use Rattle.manners.specs.declared.Manner.{Manner}
use Rattle.turns.specs.Shown.{empty, long_of}
use Rattle.turns.specs.Shown.{old_value, file_value}
use Rattle.turns.specs.Words.{value_at}
use Rattle.checked.specs.Whole.{bytes_in}
use Rattle.manners.specs.Manners.{manner_of, long_from, value_by}

-- a type that is known to be k, of fixed width, has as many bytes as k
pub bytes-as : (serial : ℕ) {k : ℕ} → serial ≡ k → k < 10 → bytes_in (width_of serial) ≡ get_or widths k 0
bytes-as serial {k} i l = ap (λ (n : ℕ). bytes_in (width_of n)) i ∙ ap bytes_in (width_small k l)

-- LONG TYPES, past those of fixed width

pub by-long : (manner : Manner) (serial at : ℕ) (s : List ℕ) → 10 ≤ serial → value_by manner serial at s ≡ long_from manner.least serial at
unfolding value_by
by-long manner serial at s h =
    rw (
      ne_eqb serial 0 (omega arith),
      ne_eqb serial 1 (omega arith),
      ne_eqb serial 2 (omega arith),
      le-ltb serial 5 (omega arith),
      le-ltb serial 7 (omega arith),
      ne_eqb serial 7 (omega arith),
      ne_eqb serial 8 (omega arith),
      ne_eqb serial 9 (omega arith),
    )

-- the turn of what a test picks is the test's pick of the turns
module _ (at len : ℕ) where
  abbrev shown : Bool → Bool → Value
  shown none blob = pick none empty (pick blob (long_of 4 at len) (long_of 3 at len))

  old-turned : (none blob : Bool) → old_value (pick none ov.Null (pick blob (ov.Blob at len) (ov.Text at len))) ≡ shown none blob
  old-turned true blob = refl
  old-turned false true = refl
  old-turned false false = refl

  file-turned : (none blob : Bool) → file_value (pick none fv.Null (pick blob (fv.Blob at len) (fv.Text at len))) ≡ shown none blob
  file-turned true blob = refl
  file-turned false true = refl
  file-turned false false = refl

-- EACH TYPE: the ten of fixed width, one by one, and the long ones

each : (P : ℕ → Type 0) → P 0 → P 1 → P 2 → P 3 → P 4 → P 5 → P 6 → P 7 → P 8 → P 9 → ((k : ℕ) → 10 ≤ k → P k) → (k : ℕ) → P k
each P p0 p1 p2 p3 p4 p5 p6 p7 p8 p9 rest zero = p0
each P p0 p1 p2 p3 p4 p5 p6 p7 p8 p9 rest (suc zero) = p1
each P p0 p1 p2 p3 p4 p5 p6 p7 p8 p9 rest (suc (suc zero)) = p2
each P p0 p1 p2 p3 p4 p5 p6 p7 p8 p9 rest (suc (suc (suc zero))) = p3
each P p0 p1 p2 p3 p4 p5 p6 p7 p8 p9 rest (suc (suc (suc (suc zero)))) = p4
each P p0 p1 p2 p3 p4 p5 p6 p7 p8 p9 rest (suc (suc (suc (suc (suc zero))))) = p5
each P p0 p1 p2 p3 p4 p5 p6 p7 p8 p9 rest (suc (suc (suc (suc (suc (suc zero)))))) = p6
each P p0 p1 p2 p3 p4 p5 p6 p7 p8 p9 rest (suc (suc (suc (suc (suc (suc (suc zero))))))) = p7
each P p0 p1 p2 p3 p4 p5 p6 p7 p8 p9 rest (suc (suc (suc (suc (suc (suc (suc (suc zero)))))))) = p8
each P p0 p1 p2 p3 p4 p5 p6 p7 p8 p9 rest (suc (suc (suc (suc (suc (suc (suc (suc (suc zero))))))))) = p9
each P p0 p1 p2 p3 p4 p5 p6 p7 p8 p9 rest (suc (suc (suc (suc (suc (suc (suc (suc (suc (suc k)))))))))) =
    rest (suc (suc (suc (suc (suc (suc (suc (suc (suc (suc k)))))))))) (omega arith)

-- the manner of a reading shows its values
pub manner-shows : (r : Reading) (serial at : ℕ) (db : List ℕ) → value_by (manner_of r) serial at (drop at db) ≡ value_at r serial at db
unfolding value_by old-values.value_of file-values.value_of
manner-shows old serial at db =
    each (λ k. value_by (manner_of old) k at (drop at db) ≡ value_at old k at db) refl refl refl refl refl refl refl refl refl refl long serial
  where
    long : (k : ℕ) → 10 ≤ k → value_by (manner_of old) k at (drop at db) ≡ value_at old k at db
    long k h =
        by-long (manner_of old) k at (drop at db) h ∙ ap (λ none. shown at (length_of k) none (is_blob k)) (sym (no_bytes k))
        ∙ sym (old-turned at (length_of k) (eqb (length_of k) 0) (is_blob k)) ∙ ap old_value (sym (old-long k at (drop at db) h))
manner-shows file serial at db =
    each (λ k. value_by (manner_of file) k at (drop at db) ≡ value_at file k at db) refl refl refl refl refl refl refl refl refl refl long serial
  where
    long : (k : ℕ) → 10 ≤ k → value_by (manner_of file) k at (drop at db) ≡ value_at file k at db
    long k h =
        by-long (manner_of file) k at (drop at db) h ∙ sym (file-turned at (length_of k) (ltb k 12) (is_blob k))
        ∙ ap file_value (sym (file-long k at (drop at db) h))
