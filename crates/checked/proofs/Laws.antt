-- A row whose record was checked, column by column: a step comes to the next one as long as there is one.
use Prim.Native.Nat.{ℕ, ◌+◌, ◌-◌, ◌≤◌, ◌<◌}
use mathlib.Core.Path.{◌≡◌, refl, ap, ◌∙◌}
use mathlib.Core.List.{List}
use native.Mathlib.Nat.{zero-add}
use native.Mathlib.Omega.{arith}
use lib.ListN.{length, get_or, length-take, length-drop}
use borrow.Author.Tests.{le-ltb}
use Rattle.varint.specs.declared.Number.{Number}
use Rattle.varint.specs.Varint.{number, varint_of}
use Rattle.varint.proofs.Laws.{length-bounds, longer-limit}
use Rattle.reading.specs.declared.Reading.{Reading}
use Rattle.reading.specs.declared.Reading.TheVariants.{Old as old, File as file}
use Rattle.reading.specs.Reading.{limit}
use Rattle.serial.specs.Serial.{width_of}
use Rattle.record.specs.Types.{count, walk}
use Rattle.record.proofs.Laws.{none-counted}
use Rattle.record.proofs.Room.{Past, fits-past}
use Rattle.record.proofs.Room as room
use Rattle.columns.specs.declared.Cursor.{Cursor}
use Rattle.columns.specs.Columns.{types_at, end_in, slot_of, behind, step_of}
use Rattle.columns.proofs.Laws.{ahead, types-behind, type-within, type-byte, step-passes, step-none, slot-within}
use Rattle.columns.proofs.Extents.{There, past-found}
use Rattle.checked.specs.Whole.{Whole, bytes_in, number_by}
use Rattle.columns.specs.Columns.{step_over}
use Rattle.std.specs.Prelude.{Err, None, Ok, Result, Some}
use Rattle.varint.specs.declared.Cause.{Cause}

-- of so many columns n are behind the cursor, and the rest are all there
pub record Left (r : Reading) (columns : ℕ) (db : List ℕ) (c : Cursor) (n : ℕ) : Type 0 where
  pub reading : c.reading ≡ r
  pub ordered : c.value ≤ c.end
  pub within : c.end ≤ length db
  pub header : c.stop ≤ length db
  pub past : Past (walk n (c.end - c.value) (types_at c db))
  pub counted : n + count (types_at c db) ≡ columns

pub at_first : (c : Cursor) (columns : ℕ) (db : List ℕ) → Whole c columns db → Left c.reading columns db c 0
at_first c columns db w =
    record {
      reading = refl;
      ordered = w.ordered;
      within = w.within;
      header = w.header;
      past = fits-past c.reading (types_at c db) (walk 0 (c.end - c.value) (types_at c db)) w.fits;
      counted = zero-add (count (types_at c db)) ∙ w.columns;
    }

-- so each of them is found
pub whole-found : (c : Cursor) (n : ℕ) (db : List ℕ) → Whole c n db → (k : ℕ) → k < n → There (slot_of k c db)
whole-found c n db w k l =
    rw (slot-within c db w.within k) (past-found k 0 c.value c.end (types_at c db) (at_first c n db w).past (rw w.columns l))

-- ONE COLUMN MORE

-- its type t, its value of w bytes, and the step there
pub record Next (r : Reading) (columns : ℕ) (db : List ℕ) (c : Cursor) (n : ℕ) : Type 0 where
  pub t : Number
  pub w : ℕ
  pub read : varint_of (limit c.reading) (ahead c db) ≡ Ok t
  pub width : width_of t.value ≡ Some w
  pub room : c.value + w ≤ c.end
  pub step : step_of c db ≡ step_over t.value c.value (behind t.length w c)
  pub left : Left r columns db (behind t.length w c) (n + 1)

module _ {r : Reading} {columns : ℕ} (db : List ℕ) (c : Cursor) (n : ℕ) (h : Left r columns db c n) where
  pub none_left : columns ≤ n → step_of c db ≡ None
  none_left l = step-none c db (omega (arith, h.counted))

  pub next : n < columns → Next r columns db c n
  next l = go (varint_of (limit c.reading) (ahead c db)) refl
    where
      go : (v : Result Number Cause) → varint_of (limit c.reading) (ahead c db) ≡ v → Next r columns db c n
      go (Err cause) e = absurd (omega (arith, h.counted, none-counted (limit c.reading) (ahead c db) e))
      go (Ok t) e =
          let rest = types_at (behind t.length 0 c) db in
          let i = types-behind c db e 0 in
          let p = room.passed Past (λ k d. d) (λ k d. d) n (c.end - c.value) t rest (rw i at h.past) in
          let over : c.end - c.value - p.width ≡ c.end - (c.value + p.width) = omega arith in
          let all : end_in c db ≡ c.end = omega (arith, h.within) in
          record {
            t = t;
            w = p.width;
            read = e;
            width = p.has;
            room = omega (arith, p.room, h.ordered);
            step = step-passes c db e p.has ∙ rw (all, le-ltb (c.end - c.value) p.width p.room);
            left = record {
              reading = h.reading;
              ordered = omega (arith, p.room, h.ordered);
              within = h.within;
              header = h.header;
              past = rw over at p.on;
              counted = omega (arith, h.counted, ap count i);
            };
          }

-- where the type is one byte
module _ {r : Reading} {columns : ℕ} (db : List ℕ) (c : Cursor) (n : ℕ) (h : Left r columns db c n) (x : Next r columns db c n) (b : get_or db c.at 0 < 128) where
  pub byte-type : x.t ≡ number (get_or db c.at 0) 1
  byte-type = type-byte c db x.read b

  pub byte_width : width_of (get_or db c.at 0) ≡ Some x.w
  byte_width = rw byte-type at x.width

-- where it is longer: what the larger limit finds is what its reading's finds
within-nine : (r : Reading) → limit r ≤ 9
within-nine old = omega arith
within-nine file = omega arith

pub type-nine : (db : List ℕ) (c : Cursor) {t : Number} → varint_of (limit c.reading) (ahead c db) ≡ Ok t → number_by (varint_of 9 (ahead c db)) ≡ t
type-nine db c e = ap number_by (longer-limit (ahead c db) (limit c.reading) 9 (within-nine c.reading) e)

module _ {r : Reading} {columns : ℕ} (db : List ℕ) (c : Cursor) (n : ℕ) (h : Left r columns db c n) (x : Next r columns db c n) {t : Number}
    (e : t ≡ number_by (varint_of 9 (ahead c db))) where
  pub long-type : t ≡ x.t
  long-type = e ∙ type-nine db c x.read

  pub long-width : bytes_in (width_of t.value) ≡ x.w
  long-width = rw (long-type, x.width)

  -- the next type stands before their end
  pub long-room : c.at + t.length ≤ c.stop
  long-room =
      let w = type-within c db x.read in
      let b = simp (length-take, length-drop) at (length-bounds (ahead c db) (limit c.reading) x.read) in
      rw long-type (omega (arith, w.0, w.1))
