-- The values of a row whose record was checked, as they are stored: a type of one byte by its manner, a longer one by its reading.
use Prim.Native.Nat.{ℕ, ◌+◌, ◌-◌, ◌*◌, ◌≤◌, ◌<◌}
use mathlib.Core.Path.{◌≡◌, refl, sym, ap}
use mathlib.Core.Bool.{Bool, true, false}
use mathlib.Core.Logic.{◌⊎◌, inl, inr}
use mathlib.Core.List.{List}
use native.Mathlib.Omega.{arith}
use lib.Dec.{ltb}
use lib.IntN.{ℤ}
use lib.ListN.{length, take, drop, get_or}
use lib.Seq.{sets}
use borrow.Author.Tests.{ltb-true, ltb-false}
use Rattle.laws.proofs.Parts.{tail}
use Rattle.varint.specs.declared.Number.{Number}
use Rattle.varint.specs.Varint.{varint_of}
use Rattle.reading.specs.declared.Reading.{Reading}
use Rattle.serial.specs.Serial.{width_of}
use Rattle.columns.specs.declared.Cursor.{Cursor}
use Rattle.columns.specs.Columns.{behind}
use Rattle.columns.proofs.Laws.{ahead}
use Rattle.checked.specs.Whole.{bytes_in, number_by}
use Rattle.checked.proofs.Laws.{Left, Next, none_left, byte-type, byte_width, long-type, long-width}
use Rattle.turns.specs.declared.types.Value.{Value}
use Rattle.turns.specs.Rows.{filled_of}
use Rattle.turns.specs.Words.{words_of, value_at}
use Rattle.run.specs.Run.{run_from, filled_by, over}
use Rattle.manners.specs.Manners.{manner_of, value_by}
use Rattle.filled.specs.Moved.{moved_to}
use Rattle.run.proofs.Filling.{Held, one_more, all-stored, run-done, run-full}
use Rattle.manners.proofs.Laws.{manner-shows}

-- where the type is one byte
module _ {r : Reading} {columns : ℕ} (db : List ℕ) (c : Cursor) (n : ℕ) (h : Left r columns db c n) (x : Next r columns db c n) (b : get_or db c.at 0 < 128) where
  pub byte-value : value_by (manner_of r) (get_or db c.at 0) c.value (take (length db - c.value) (drop c.value db))
      ≡ value_at c.reading x.t.value c.value db
  byte-value =
      rw (tail db c.value, byte-type db c n h x b, ← h.reading) (manner-shows c.reading (get_or db c.at 0) c.value db)

  pub byte-behind : (end : ℕ) → end ≡ c.value + bytes_in (width_of (get_or db c.at 0)) → moved_to 1 end c ≡ behind x.t.length x.w c
  byte-behind end e = rw (e, byte_width db c n h x b, byte-type db c n h x b)

-- where it is longer
module _ {r : Reading} {columns : ℕ} (db : List ℕ) (c : Cursor) (n : ℕ) (h : Left r columns db c n) (x : Next r columns db c n) {t : Number}
    (e : t ≡ number_by (varint_of 9 (ahead c db))) where
  pub long-value : value_at r t.value c.value db ≡ value_at c.reading x.t.value c.value db
  long-value = rw (long-type db c n h x e, h.reading)

  pub long-behind : (end : ℕ) → end ≡ c.value + bytes_in (width_of t.value) → moved_to t.length end c ≡ behind x.t.length x.w c
  long-behind end i = rw (i, long-width db c n h x e, long-type db c n h x e)

-- THE TURNS OF A LOOP

module _ (places : ℕ) (first : Cursor) (db : List ℕ) (lent : List ℤ) (room : 5 * places ≤ length lent) (table : List ℤ) (here : Cursor) (n : ℕ)
    (h : Held places first db lent table here n) {r : Reading} {columns : ℕ} where
  -- one value more
  pub goes_on : (x : Next r columns db here n) (l : n < places) {after : List ℤ} {there : Cursor} (v : Value)
      → v ≡ value_at here.reading x.t.value here.value db → after ≡ sets table (5 * n) (words_of v) → there ≡ behind x.t.length x.w here
      → Held places first db lent after there (n + 1) × Left r columns db there (n + 1)
  goes_on x l {after} {there} v e s t =
      rw (s, t) (one_more places first db lent room table here n h (words_of v) (behind x.t.length x.w here) l x.step (ap words_of (sym e)) refl, x.left)

  -- no value more: there is no column left, or no place
  pub comes-to-end : Left r columns db here n → (n < columns → places ≤ n)
      → (filled_of n here ≡ filled_by (run_from places first db)) × (table ≡ over (run_from places first db) lent)
  comes-to-end k full = go (ltb n columns) refl
    where
      go : (b : Bool) → ltb n columns ≡ b → (filled_of n here ≡ filled_by (run_from places first db)) × (table ≡ over (run_from places first db) lent)
      go true e =
          let l = full (ltb-true n columns e) in
          let none : places - n ≡ 0 = omega arith in
          all-stored places first db lent room table here n h (rw none (run-full here db))
      go false e = all-stored places first db lent room table here n h (run-done (places - n) here db (none_left db here n k (ltb-false n columns e)))

-- what is the smaller of two numbers is within both
pub smaller : {A B : Type 0} {columns places most : ℕ} → (A → columns < places) → (B → places ≤ columns)
    → ◌⊎◌ (A × (most ≡ columns)) (B × (most ≡ places)) → (most ≤ columns) × (most ≤ places)
smaller f g (inl p) = omega (arith, p.1, f p.0)
smaller f g (inr p) = omega (arith, p.1, g p.0)
