-- The places of a table that a run of values is written over: place k holds the words of column k.
use Prim.Native.Nat.{ℕ, zero, suc, ◌+◌, ◌*◌, ◌<◌}
use mathlib.Core.Path.{◌≡◌, refl, sym, ap, ◌∙◌}
use mathlib.Core.List.{List, ◌++◌}
use native.Mathlib.Omega.{arith}
use lib.IntN.{ℤ}
use lib.ListN.{length, take, drop}
use lib.Seq.{drop-append-add}
use Rattle.laws.proofs.Never.{never}
use Rattle.columns.specs.declared.Cursor.{Cursor}
use Rattle.columns.specs.Columns.{slot_of, step_of}
use Rattle.columns.proofs.Parts.{slot-parts}
use Rattle.columns.proofs.Laws.{slot-done, slot-here, slot_next, stepped}
use Rattle.turns.specs.declared.types.Value.{Value}
use Rattle.turns.specs.Words.{words_of, value_at}
use Rattle.run.specs.Run.{Run, run, before, run_from, over}
use Rattle.run.proofs.Filling.{run_more}
use Rattle.columns.specs.Columns.{slot_at}
use Rattle.columns.specs.declared.Step.{Step}
use Rattle.std.specs.Prelude.{None, Option, Some}

-- five words behind k times five
abbrev pub five_at : ℕ → List ℤ → List ℤ
five_at k table = take 5 (drop (5 * k) table)

abbrev pub words_in : Run → List ℤ
words_in (run n c words) = words

-- the first value of a run, and the others
module _ (v : Value) (rest : List ℤ) where
  first-here : (r : Run) → five_at 0 (words_in (before 1 (words_of v) r) ++ rest) ≡ words_of v
  first-here (run n c words) = refl

  others-behind : (k : ℕ) (r : Run) → five_at (suc k) (words_in (before 1 (words_of v) r) ++ rest) ≡ five_at k (words_in r ++ rest)
  others-behind k (run n c words) =
      let m : 5 * suc k ≡ 5 + 5 * k = omega arith in
      rw m (ap (take 5) (drop-append-add (words_of v) (words ++ rest) (5 * k)))

-- place k of a run has the words of column k, whatever stands behind the run
pub place-holds : (k places : ℕ) (c : Cursor) (db : List ℕ) (rest : List ℤ) {t at : ℕ} → k < places → slot_of k c db ≡ slot_at t at
    → five_at k (words_in (run_from places c db) ++ rest) ≡ words_of (value_at c.reading t at db)
place-holds k zero c db rest l e = absurd (omega arith)
place-holds zero (suc places) c db rest {t} {at} l e = go (step_of c db) refl
  where
    go : (s : Option Step) → step_of c db ≡ s → five_at 0 (words_in (run_from (suc places) c db) ++ rest) ≡ words_of (value_at c.reading t at db)
    go None d = let m = sym (slot-done c db 0 d) ∙ e in never cc
    go (Some step) d =
        let p = slot-parts (sym (slot-here c db d) ∙ e) in
        rw (run_more places c db d, p.0, p.1) (first-here (value_at c.reading t at db) rest (run_from places step.next db))
place-holds (suc k) (suc places) c db rest {t} {at} l e = go (step_of c db) refl (λ next f. place-holds k places next db rest (omega arith) f)
  where
    go : (s : Option Step) → step_of c db ≡ s
        → ((next : Cursor) → slot_of k next db ≡ slot_at t at → five_at k (words_in (run_from places next db) ++ rest) ≡ words_of (value_at next.reading t at db))
        → five_at (suc k) (words_in (run_from (suc places) c db) ++ rest) ≡ words_of (value_at c.reading t at db)
    go None d ih = let m = sym (slot-done c db (suc k) d) ∙ e in never cc
    go (Some step) d ih =
        let q : c.reading ≡ step.next.reading = ap (λ (y : Cursor). y.reading) (stepped c db d).on in
        rw (run_more places c db d, others-behind (value_at c.reading step.serial step.at db) rest k (run_from places step.next db), q)
        (ih step.next (sym (slot_next c db d k) ∙ e))

-- a table that a run was written over begins with its words
pub over-run : (r : Run) (table : List ℤ) → over r table ≡ words_in r ++ drop (length (words_in r)) table
over-run (run n c words) table = refl
