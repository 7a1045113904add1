-- The columns of a row that was checked, by a cursor that stands before one of them.
use Prim.Native.Nat.{ℕ, zero, suc, ◌+◌, ◌≤◌, ◌<◌}
use mathlib.Core.Path.{◌≡◌, refl, sym, ap, subst, ◌∙◌}
use mathlib.Core.List.{List}
use native.Mathlib.Numerals.{add-one}
use native.Mathlib.Omega.{arith}
use lib.ListN.{length-take, length-drop}
use Rattle.varint.specs.declared.Number.{Number}
use Rattle.varint.proofs.Laws.{length-bounds}
use Rattle.reading.specs.declared.Reading.{Reading}
use Rattle.reading.specs.Reading.{limit}
use Rattle.serial.specs.Serial.{width_of}
use Rattle.columns.specs.declared.Cursor.{Cursor}
use Rattle.columns.specs.Columns.{slot_of, behind, step_of}
use Rattle.columns.specs.Along.{slot_by}
use Rattle.columns.proofs.Laws.{ahead, type-within, slot-none}
use Rattle.checked.specs.Whole.{Whole, bytes_in, number_by}
use Rattle.checked.specs.Past.{past_of}
use Rattle.checked.proofs.Laws.{Left, at_first, Next, next}
use Rattle.checked.proofs.Past.{past-none, past_next, slot-past}
use Rattle.turns.specs.declared.types.Refused.{Refused}
use Rattle.turns.specs.declared.types.Value.{Value}
use Rattle.turns.specs.declared.types.Shown.{Shown}
use Rattle.turns.specs.Refusals.{accepted}
use Rattle.turns.specs.Words.{value_at}
use Rattle.chosen.specs.Chosen.{slot_shown}
use Rattle.screen.specs.Coming.{Coming, type_at}
use Rattle.columns.specs.Columns.{slot_at}
use Rattle.columns.specs.declared.Slot.{Slot}
use Rattle.std.specs.Prelude.{None, Option}

-- the cursor behind n columns, of a row that has so many
pub record Before (first : Cursor) (columns : ℕ) (db : List ℕ) (here : Cursor) (n : ℕ) : Type 0 where
  pub is : here ≡ past_of n first db
  pub left : Left first.reading columns db here n

module _ {first : Cursor} {columns : ℕ} {db : List ℕ} where
  pub before-first : Whole first columns db → Before first columns db first 0
  before-first w = record { is = sym (past-none first db); left = at_first first columns db w }

  -- there is none behind the last
  pub none-behind : Whole first columns db → (k : ℕ) → columns ≤ k → slot_of k first db ≡ None
  none-behind w k l = slot-none first db k (rw w.columns l)

  module _ {here : Cursor} {n : ℕ} (b : Before first columns db here n) (l : n < columns) where
    abbrev x : Next first.reading columns db here n
    x = next db here n b.left l

    pub coming : Coming here db
    coming = record { t = x.t; read = x.read; header = b.left.header }

    type-is : {t : Number} → t ≡ type_at here db → t ≡ x.t
    type-is e = e ∙ ap number_by x.read

    -- where its type and its value end
    pub type-ends : {t : Number} → t ≡ type_at here db → here.at + t.length ≤ here.stop
    type-ends e =
        let w = type-within here db x.read in
        let b = simp (length-take, length-drop) at (length-bounds (ahead here db) (limit here.reading) x.read) in
        rw (type-is e) (omega (arith, w.0, w.1))

    width_is : {t : Number} → t ≡ type_at here db → bytes_in (width_of t.value) ≡ x.w
    width_is e = rw (type-is e, x.width)

    pub value-ends : {t : Number} → t ≡ type_at here db → here.value + bytes_in (width_of t.value) ≤ here.end
    value-ends e = rw (width_is e) x.room

    -- the cursor behind it
    pub before-next : {t : Number} {there : Cursor} → t ≡ type_at here db → there ≡ behind t.length (bytes_in (width_of t.value)) here
        → Before first columns db there (n + 1)
    before-next {t} {there} e m =
        let there-is : there ≡ behind x.t.length x.w here = m ∙ rw (width_is e, type-is e) in
        let step = ap (λ (c : Cursor). step_of c db) (sym b.is) ∙ x.step in
        rw there-is (record { is = sym (past_next n first db step); left = x.left })

    -- the column of the definition
    pub column-here : {t : Number} → t ≡ type_at here db → slot_of n first db ≡ slot_at t.value here.value
    column-here e = slot-past n first db ∙ ap (λ (c : Cursor). slot_by (step_of c db)) (sym b.is) ∙ ap slot_by x.step ∙ rw (type-is e)

-- the cursor behind some columns stands before the next
pub past-before : {first : Cursor} {columns : ℕ} {db : List ℕ} → Whole first columns db → (k : ℕ) → k ≤ columns → Before first columns db (past_of k first db) k
past-before {first} {columns} {db} w zero l = subst (λ (h : Cursor). Before first columns db h 0) (sym (past-none first db)) (before-first w)
past-before {first} {columns} {db} w (suc k) l =
    let b = past-before w k (omega arith) in
    let x = next db (past_of k first db) k b.left (omega arith) in
    let there = past_next k first db x.step in
    subst (λ (n : ℕ). Before first columns db (past_of n first db) n) (add-one k)
    (record { is = refl; left = subst (λ (h : Cursor). Left first.reading columns db h (k + 1)) (sym there) x.left })

-- a value, as it is shown
pub shown-found : (r : Reading) (number : ℕ) (db : List ℕ) {slot : Option Slot} {t at : ℕ} {refused : Refused} {value : Value} → slot ≡ slot_at t at
    → refused ≡ accepted → value ≡ value_at r t at db
    → ◌≡◌ {A = Shown} (record { refused = refused; value = value }) (slot_shown r number db slot)
shown-found r number db {slot} {t} {at} s a v = rw (s, a, v)
