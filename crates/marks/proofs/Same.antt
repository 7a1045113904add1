-- Where no mark stands, the old reading takes a cell of a table leaf apart as the file reading does, whatever bytes stand
-- behind it.
use Prim.Native.Nat.{ℕ, ◌+◌, ◌-◌, ◌≤◌, ◌<◌}
use mathlib.Core.Path.{◌≡◌, refl, ap, ◌∙◌}
use mathlib.Core.List.{List, ◌++◌}
use mathlib.Core.Bool.{Bool, true, false, not, ◌||◌}
use native.Mathlib.Omega.{arith}
use lib.Dec.{eqb}
use lib.ListN.{length, take, drop, length-append}
use lib.Seq.{take-append-le, take-length}
use borrow.Author.Tests.{le-ltb, ltb-false, eqb-true, not-false}
use Rattle.laws.specs.Pick.{pick}
use Rattle.laws.proofs.Never.{never}
use Rattle.answers.specs.declared.Mark.TheVariants as ma
use Rattle.varint.specs.declared.Cause.{Cause}
use Rattle.varint.specs.Varint.{varint_of}
use Rattle.varint.proofs.Laws.{longer-limit, shorter-limit, bytes-behind, left_behind}
use Rattle.reading.specs.declared.Reading.TheVariants.{Old as old, File as file}
use Rattle.record.specs.Types.{Types, broken, column, types_of}
use Rattle.record.specs.Record.{Record}
use Rattle.record.proofs.Laws.{types-nil, types-next, types-broken}
use Rattle.record.proofs.Spelt.{Spelt, ended, stopped, further, spelt}
use Rattle.record.proofs.Room.{more_room, accepted-ends}
use Rattle.record.proofs.Accepted.{Accepted, accepted, record-again}
use Rattle.kinds.specs.declared.Kind.TheVariants.{LeafTable}
use Rattle.cell.specs.Cell.{Cell, cell_of}
use Rattle.cell.proofs.Recorded.{record_with}
use Rattle.cell.proofs.Leaf.{leaf, leaf-again}
use Rattle.marks.specs.Marks.{some, long, long_type, stored_one, empty_value, long_varint, lowest, mark_of}
use Rattle.laws.proofs.Bools.{neither}
use Rattle.marks.proofs.Behind.{size-on, key-on, payload, beyond, payload-on}
use Rattle.std.specs.Prelude.{Err, None, Ok, Result, Some}
use Rattle.varint.specs.declared.Number.{Number}

-- NO MARK: none of the four stands

pub record Unmarked (np nv own : ℕ) (ts : Types) : Type 0 where
  pub size : np ≤ 5
  pub row : nv ≤ 5
  pub header : own ≤ 5
  pub narrow : own ≡ 1
  pub types : some long_type ts ≡ false
  pub ones : some stored_one ts ≡ false
  pub empties : some empty_value ts ≡ false

pub clear : {np nv own : ℕ} {ts : Types} → lowest np nv own ts ≡ None → Unmarked np nv own ts
unfolding lowest
clear {np} {nv} {own} {ts} e = go (long_varint np nv own ts) (not (eqb own 1)) (some stored_one ts) (some empty_value ts) refl refl refl refl e
  where
    go : (a b c d : Bool) → long_varint np nv own ts ≡ a → not (eqb own 1) ≡ b → some stored_one ts ≡ c → some empty_value ts ≡ d
        → pick a (Some ma.LongVarint) (pick b (Some ma.WideHeaderSize) (pick c (Some ma.StoredOne) (pick d (Some ma.EmptyValue) None))) ≡ None
        → Unmarked np nv own ts
    go true b c d i j k l f = never cc
    go false true c d i j k l f = never cc
    go false false true d i j k l f = never cc
    go false false false true i j k l f = never cc
    go false false false false i j k l f =
        let p = neither (long np) (long nv || (long own || some long_type ts)) i in
        let q = neither (long nv) (long own || some long_type ts) p.1 in
        let r = neither (long own) (some long_type ts) q.1 in
        record {
          size = ltb-false 5 np p.0;
          row = ltb-false 5 nv q.0;
          header = ltb-false 5 own r.0;
          narrow = eqb-true own 1 (not-false (eqb own 1) j);
          types = r.1;
          ones = k;
          empties = l;
        }

pub clear-again : {np nv own : ℕ} {ts : Types} → Unmarked np nv own ts → lowest np nv own ts ≡ None
unfolding lowest
clear-again {np} {nv} {own} {ts} u =
    rw (le-ltb 5 np u.size, le-ltb 5 nv u.row, u.narrow, u.types, u.ones, u.empties)

-- TYPES, where none takes more than five bytes

still-broken : (s : List ℕ) {c : Cause} → 0 < length s → varint_of 9 s ≡ Err c → types_of 5 s ≡ broken
still-broken s l e = go (varint_of 5 s) refl
  where
    go : (v : Result Number Cause) → varint_of 5 s ≡ v → types_of 5 s ≡ broken
    go (Err d) i = types-broken 5 s l i
    go (Ok t) i = let f = longer-limit s 5 9 (omega arith) i in never cc

same-types : {s : List ℕ} {ts : Types} → Spelt 9 s ts → some long_type ts ≡ false → types_of 5 s ≡ ts
same-types ended e = types-nil 5
same-types (stopped {s} l i) e = still-broken s l i
same-types (further {s} {t} {rest} i r) e =
    let d = neither (long_type t) (some long_type rest) e in
    types-next 5 s (shorter-limit s 5 9 (ltb-false 5 t.length d.0) i) ∙ ap (column t) (same-types r d.1)

-- THE RECORD, where its header size has one byte

same-record : (q z : List ℕ) (c : Record) → c.header.length ≡ 1 → Accepted file q c → some long_type c.types ≡ false
    → Accepted old (q ++ z) (record { header = c.header; types = c.types; left = c.left + length z })
same-record q z c i a e =
    let h = c.header in
    let y = drop h.length q in
    let f = left_behind q 9 z a.header in
    let k : h.value - 1 ≡ h.value - h.length = omega arith in
    let room = a.room in
    let low = a.low in
    let g : length (y ++ z) - (h.value - h.length) ≡ length y - (h.value - h.length) + length z = simp length-append (omega arith) in
    let t : types_of 5 (take (h.value - h.length) y) ≡ c.types = rw a.types at (same-types (spelt 9 (take (h.value - h.length) y)) (rw a.types e)) in
    let w = more_room 0 (length y - (h.value - h.length)) (length z) c.types (accepted-ends _ _ a.fits) in
    record {
      header = shorter-limit (q ++ z) 5 9 (omega arith) (bytes-behind q 9 z a.header);
      low = omega arith;
      room = rw (f, k) (simp length-append (omega arith));
      types = rw (f, k, take-append-le (h.value - h.length) y z room) t;
      fits = rw (f, k, g, w);
    }

-- THE CELL

-- a cell with n bytes of payload: the old reading takes all that stands behind the numbers
abbrev pub with_payload : ℕ → Cell → Cell
with_payload n c = record { numbers = c.numbers; payload = n; header = c.header; types = c.types; row = c.row }

pub same-cell : (u u' : ℕ) (s z : List ℕ) {c : Cell} → cell_of file LeafTable u s ≡ Ok c → mark_of c ≡ None
    → cell_of old LeafTable u' (s ++ z) ≡ Ok (with_payload (length (drop c.numbers.length (s ++ z))) c)
same-cell u u' s z {c} e m =
    let o = leaf file u s e in
    let k = clear m in
    let a = accepted file (payload u s z o) o.recorded in
    let b = same-record (payload u s z o) (beyond u s z o) (record_with c o.left) k.narrow a k.types in
    let l = drop c.numbers.length (s ++ z) in
    leaf-again old u' (s ++ z) {c = with_payload (length l) c} (record {
      size = shorter-limit (s ++ z) 5 9 k.size (size-on u s z o);
      key = shorter-limit (drop c.numbers.size.length (s ++ z)) 5 9 k.row (key-on u s z o);
      numbers = o.numbers;
      payload = refl;
      left = o.left + length (beyond u s z o);
      recorded = rw (take-length l, payload-on u s z o) (record-again old (payload u s z o ++ beyond u s z o) b);
      row = o.row;
    })
