-- How many values of a row that was checked are stored: as many as it has columns, or as the table has places.
use Prim.Native.Nat.{ℕ, zero, suc, ◌+◌, ◌≤◌, ◌<◌}
use mathlib.Core.Path.{◌≡◌, refl, ◌∙◌}
use mathlib.Core.List.{List}
use mathlib.Core.Bool.{Bool, true, false}
use native.Mathlib.Omega.{arith}
use lib.Dec.{ltb}
use lib.IntN.{ℤ}
use borrow.Author.Tests.{ltb-true, ltb-false}
use Rattle.laws.specs.Pick.{pick}
use Rattle.reading.specs.declared.Reading.{Reading}
use Rattle.columns.specs.declared.Cursor.{Cursor}
use Rattle.columns.specs.Columns.{behind}
use Rattle.turns.specs.Words.{words_of, value_at}
use Rattle.run.specs.Run.{Run, run, before, run_from, filled_by}
use Rattle.checked.specs.Whole.{Whole}
use Rattle.run.proofs.Filling.{run-done, run-full, run_more}
use Rattle.checked.proofs.Laws.{Left, at_first, Next, next, none_left}

abbrev count_in : Run → ℕ
count_in (run n c words) = n

one-counted : (words : List ℤ) (r : Run) → count_in (before 1 words r) ≡ 1 + count_in r
one-counted words (run n c rest) = refl

-- k of the columns behind the first n are stored: no more than there are, or places for them, and no fewer
record Fitting (n places columns k : ℕ) : Type 0 where
  within : k ≤ places
  counted : n + k ≤ columns
  all : k < places → columns ≤ n + k

module _ {r : Reading} {columns : ℕ} (db : List ℕ) where
  fitting : (places : ℕ) (c : Cursor) (n : ℕ) → Left r columns db c n → n ≤ columns → Fitting n places columns (count_in (run_from places c db))
  fitting zero c n h l = rw (run-full c db) (record { within = omega arith; counted = omega arith; all = λ m. absurd (omega arith) })
  fitting (suc places) c n h l = go (ltb n columns) refl (λ x m. fitting places (behind x.t.length x.w c) (n + 1) x.left m)
    where
      go : (b : Bool) → ltb n columns ≡ b
          → ((x : Next r columns db c n) → n + 1 ≤ columns → Fitting (n + 1) places columns (count_in (run_from places (behind x.t.length x.w c) db)))
          → Fitting n (suc places) columns (count_in (run_from (suc places) c db))
      go true e ih =
          let m = ltb-true n columns e in
          let x = next db c n h m in
          let f = ih x (omega arith) in
          rw (run_more places c db x.step, one-counted (words_of (value_at c.reading x.t.value c.value db)) (run_from places (behind x.t.length x.w c) db))
          (record { within = omega (arith, f.within); counted = omega (arith, f.counted); all = λ k. (let a = f.all (omega arith) in omega arith) })
      go false e ih =
          let m = ltb-false n columns e in
          rw (run-done (suc places) c db (none_left db c n h m)) (record { within = omega arith; counted = omega arith; all = λ k. omega arith })

filled-count : (r : Run) → (filled_by r).count ≡ count_in r
filled-count (run m c words) = refl

all-that-fit : (places columns k : ℕ) → Fitting 0 places columns k → k ≡ pick (ltb columns places) columns places
all-that-fit places columns k f = go (ltb columns places) refl
  where
    go : (b : Bool) → ltb columns places ≡ b → k ≡ pick b columns places
    go true e = let l = ltb-true columns places e in omega (arith, f.counted, f.all (omega (arith, f.counted)))
    go false e = full (ltb k places) refl
      where
        full : (b : Bool) → ltb k places ≡ b → k ≡ places
        full true d = let l = ltb-false columns places e in let m = ltb-true k places d in absurd (omega (arith, f.all m))
        full false d = let m = ltb-false k places d in omega (arith, f.within)

pub whole-count : (places : ℕ) (c : Cursor) (columns : ℕ) (db : List ℕ) → Whole c columns db
    → (filled_by (run_from places c db)).count ≡ pick (ltb columns places) columns places
whole-count places c columns db w =
    filled-count (run_from places c db) ∙ all-that-fit places columns (count_in (run_from places c db)) (fitting db places c 0 (at_first c columns db w) (omega arith))
