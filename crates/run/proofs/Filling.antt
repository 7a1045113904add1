-- What a table holds while it is filled: the words of the values so far, and behind them what it held.
use Prim.Native.Nat.{ℕ, zero, suc, ◌+◌, ◌-◌, ◌*◌, ◌≤◌, ◌<◌}
use mathlib.Core.Path.{◌≡◌, refl, sym, ap, ◌∙◌}
use mathlib.Core.List.{List, [], ◌++◌, append-nil, append_assoc}
use native.Mathlib.Nat.{add-zero, zero-add, add_assoc, sub-zero}
use native.Mathlib.Omega.{arith}
use lib.IntN.{ℤ}
use lib.ListN.{length, take, drop, length-append, take-append-drop}
use lib.Seq.{length-take-le, sets, length-sets, sets-eq, take_at, drop_at, drop-drop}
use Rattle.columns.specs.declared.Cursor.{Cursor}
use Rattle.columns.specs.Columns.{step_of}
use Rattle.turns.specs.Rows.{filled_of}
use Rattle.turns.specs.Words.{words_of, value_at}
use Rattle.run.specs.Run.{Run, run, before, run_from, filled_by, over}
use Rattle.columns.specs.Columns.{step_over}
use Rattle.std.specs.Prelude.{None}

-- RUNS

pub run-done : (places : ℕ) (c : Cursor) (db : List ℕ) → step_of c db ≡ None → run_from places c db ≡ run 0 c []
unfolding run_from
run-done zero c db e = refl
run-done (suc places) c db e = rw (run_from, e)

pub run-full : (c : Cursor) (db : List ℕ) → run_from 0 c db ≡ run 0 c []
unfolding run_from
run-full c db = refl

pub run_more : (places : ℕ) (c : Cursor) (db : List ℕ) {t at : ℕ} {next : Cursor} → step_of c db ≡ step_over t at next
    → run_from (suc places) c db ≡ before 1 (words_of (value_at c.reading t at db)) (run_from places next db)
unfolding run_from
run_more places c db e = rw (run_from, e)

pub joined : (n m : ℕ) (words more : List ℤ) (r : Run) → before n words (before m more r) ≡ before (n + m) (words ++ more) r
joined n m words more (run k c rest) = rw (add_assoc, append_assoc)

pub none_yet : (r : Run) → before 0 [] r ≡ r
none_yet (run k c rest) = rw zero-add

-- THE TABLE

-- words that are stored from place k on
module _ (table words : List ℤ) (k next : ℕ) (e : k + length words ≡ next) (h : next ≤ length table) where
  all : sets table k words ≡ take k table ++ words ++ drop next table
  all = rw (← e) (sets-eq words table k (omega arith))

  long : length (take k table ++ words) ≡ next
  long = length-append (take k table) words ∙ rw (length-take-le k table (omega arith)) e

  pub stored : take next (sets table k words) ≡ take k table ++ words
  stored = rw all (take_at (take k table ++ words) (drop next table) next long)

  pub kept : drop next (sets table k words) ≡ drop next table
  kept = rw all (drop_at (take k table ++ words) (drop next table) next long)

-- what stands behind a place stands behind a later one
pub kept_on : (a b : List ℤ) (k next : ℕ) → k ≤ next → drop k a ≡ drop k b → drop next a ≡ drop next b
kept_on a b k next h e =
    let m : k + (next - k) ≡ next = omega arith in
    let deeper = ap (drop (next - k)) e in
    rw (drop-drop (next - k) k a, drop-drop (next - k) k b, m) at deeper

-- THE TURNS OF A LOOP over a table of so many places

-- n values are stored, and the next stands at `here`
abbrev pub Held : ℕ → Cursor → List ℕ → List ℤ → List ℤ → Cursor → ℕ → Type 0
Held places first db lent table here n =
    (length table ≡ length lent)
    × (n ≤ places)
    × (drop (5 * n) table ≡ drop (5 * n) lent)
    × (run_from places first db ≡ before n (take (5 * n) table) (run_from (places - n) here db))

module _ (places : ℕ) (first : Cursor) (db : List ℕ) (lent : List ℤ) where
  pub at_first : Held places first db lent lent first 0
  at_first = (refl, omega arith, refl, rw sub-zero (sym (none_yet (run_from places first db))))

  module _ (room : 5 * places ≤ length lent) (table : List ℤ) (here : Cursor) (n : ℕ) (h : Held places first db lent table here n) where
    -- one value more
    pub one_more : (words : List ℤ) (next : Cursor) {t at : ℕ} → n < places → step_of here db ≡ step_over t at next
        → words_of (value_at here.reading t at db) ≡ words → length words ≡ 5
        → Held places first db lent (sets table (5 * n) words) next (n + 1)
    one_more words next {t} {at} l s w five =
        let k : 5 * n + length words ≡ 5 * (n + 1) = omega arith in
        let r : 5 * (n + 1) ≤ length table = omega (arith, h.0) in
        let left : places - n ≡ suc (places - (n + 1)) = omega arith in (
          length-sets table (5 * n) words ∙ h.0,
          omega arith,
          kept table words (5 * n) (5 * (n + 1)) k r ∙ kept_on table lent (5 * n) (5 * (n + 1)) (omega arith) h.2,
          rw (stored table words (5 * n) (5 * (n + 1)) k r, ← joined n 1 (take (5 * n) table) words (run_from (places - (n + 1)) next db), ← w)
              (rw (left, run_more (places - (n + 1)) here db s) at h.3),
        )

    -- no value more
    pub all-stored : run_from (places - n) here db ≡ run 0 here []
        → (filled_of n here ≡ filled_by (run_from places first db)) × (table ≡ over (run_from places first db) lent)
    all-stored e =
        rw (h.3, e, add-zero, append-nil (take (5 * n) table), length-take-le (5 * n) table (omega (arith, h.0)), ← h.2)
        (refl, sym (take-append-drop (5 * n) table))
