-- A record whose header size is one byte, and the row that has it, put together from what the short way saw of them.
use Prim.Native.Nat.{ℕ, ◌+◌, ◌-◌, ◌≤◌, ◌<◌}
use mathlib.Core.Path.{◌≡◌, refl, sym, ◌∙◌}
use mathlib.Core.List.{List}
use mathlib.Core.Bool.{Bool, true}
use native.Mathlib.Omega.{arith}
use lib.ListN.{length, take, drop, get_or, length-drop}
use Rattle.varint.specs.declared.Number.{Number}
use Rattle.varint.specs.Varint.{number, varint_of}
use Rattle.varint.proofs.Laws.{one_byte, length-bounds, longer-limit}
use Rattle.reading.specs.declared.Reading.{Reading}
use Rattle.reading.specs.declared.Reading.TheVariants.{Old as old, File as file}
use Rattle.reading.specs.Reading.{limit}
use Rattle.reading.proofs.Laws.{takes-five}
use Rattle.record.specs.declared.Laid.TheVariants.{Ends}
use Rattle.record.specs.Types.{Types, types_of, count, walk}
use Rattle.record.specs.Record.{counted, judged, fitted}
use Rattle.record.proofs.Count.{fits_count}
use Rattle.record.proofs.Stages.{fit-laid, judged-file, judged-old}
use Rattle.record.proofs.Accepted.{accepted, record-again}
use Rattle.kinds.specs.declared.Kind.TheVariants.{LeafTable}
use Rattle.kinds.specs.Kind.{most_whole}
use Rattle.cell.specs.Cell.{payload_in}
use Rattle.cell.proofs.Inside.{inside}
use Rattle.cell.proofs.Leaf.{leaf_numbers, leaf-again}
use Rattle.usual.specs.declared.Span.{Span}
use Rattle.layout.specs.Lying.{Lying, Clean}
use Rattle.usual.specs.Short.{Head, Start}
use Rattle.layout.proofs.Types.{clear-clean}
use Rattle.layout.specs.Lying.{laid_out}
use Rattle.record.specs.Record.{fits_with}
use Rattle.std.specs.Prelude.{Ok}

-- a header size counts its one byte, in either reading
counted-one : (r : Reading) → counted r 1 ≡ 1
counted-one old = refl
counted-one file = refl

-- values that fill the payload fit in the file reading, too
pub filled : {r : Reading} → r ≡ file → (ts : Types) (n : ℕ) {left : ℕ} → left ≡ 0 → judged r ts (Ends n left) ≡ fits_with n left
filled f ts n e = judged-file f ts _ ∙ rw e

module _ (g : Bool) (r : Reading) (q : List ℕ) (n left : ℕ) where
  abbrev size : ℕ
  size = get_or q 0 0

  abbrev ts : Types
  ts = types_of (limit r) (take (size - 1) (drop 1 q))

  module _ (some : 0 < length q) (byte : size < 128) (low : 1 ≤ size) (fit : size ≤ length q) where
    pub head : Lying g (length q - size) ts (laid_out n left) → judged r ts (Ends n left) ≡ fits_with n left → Head g r q size n
    head l j =
        let c = counted-one r in
        let room : length q - 1 - (size - 1) ≡ length q - size = omega arith in
        let here : size - 1 ≤ length (drop 1 q) = rw length-drop (omega arith) in
        let whole : fitted r (counted r 1) size (drop 1 q) ≡ fits_with n left =
        fit-laid r (counted r 1) size (drop 1 q) (rw c low) (rw c here) ∙ rw (c, length-drop, room, l.0) j in
        let m : n ≡ count ts = rw c at (fits_count r (counted r 1) size (drop 1 q) whole) in
        record {
          types = ts;
          left = left;
          is = record-again r q
              (record {
                header = one_byte q (limit r) (omega (arith, takes-five r)) some byte;
                low = rw c low;
                room = rw c here;
                types = rw c;
                fits = rw (c, length-drop, room, l.0, ← m) j;
              });
          columns = sym m;
          clean = l.1;
        }

-- of values that fill the payload in the file reading
pub head_filled : (g : Bool) (r : Reading) (q : List ℕ) (n : ℕ) → r ≡ file
    → walk 0 (length q - get_or q 0 0) (types_of (limit r) (take (get_or q 0 0 - 1) (drop 1 q))) ≡ Ends n 0
    → (g ≡ true → Clean (types_of (limit r) (take (get_or q 0 0 - 1) (drop 1 q))))
    → 0 < length q → get_or q 0 0 < 128 → 1 ≤ get_or q 0 0 → get_or q 0 0 ≤ length q → Head g r q (get_or q 0 0) n
head_filled g r q n f w clean some byte low fit = head g r q n 0 some byte low fit (w, clean) (filled f (ts g r q n 0) n refl)

-- of values that leave bytes over in the old reading
pub head_old : (g : Bool) (r : Reading) (q : List ℕ) (n left : ℕ) → r ≡ old
    → walk 0 (length q - get_or q 0 0) (types_of (limit r) (take (get_or q 0 0 - 1) (drop 1 q))) ≡ Ends n left
    → (g ≡ true → Clean (types_of (limit r) (take (get_or q 0 0 - 1) (drop 1 q))))
    → 0 < length q → get_or q 0 0 < 128 → 1 ≤ get_or q 0 0 → get_or q 0 0 ≤ length q → Head g r q (get_or q 0 0) n
head_old g r q n left o w clean some byte low fit = head g r q n left some byte low fit (w, clean) (judged-old o _ _)

-- THE ROW, its numbers before the record

module _ (g : Bool) (r : Reading) (u : ℕ) (s : List ℕ) where
  pub start : {size key : Number} {n h columns : ℕ} → varint_of 5 s ≡ Ok size → varint_of 5 (drop size.length s) ≡ Ok key
      → payload_in r (most_whole LeafTable u) size.value (drop (size.length + key.length) s) ≡ Ok n
      → Head g r (take n (drop (size.length + key.length) s)) h columns
      → Start g r u s (record { number = key.value; columns = columns; from = size.length + key.length; payload = n; header = h })
  start {size} {key} {n} {h} e f pay hd =
      let low = rw (counted-one r) at (accepted r (take n (drop (size.length + key.length) s)) hd.is).low in
      record {
        cell = record { numbers = leaf_numbers size key; payload = n; header = number h 1; types = hd.types; row = key };
        is = leaf-again r u s
            (record {
              size = longer-limit s 5 (limit r) (takes-five r) e;
              key = longer-limit (drop size.length s) 5 (limit r) (takes-five r) f;
              numbers = refl;
              payload = pay;
              left = hd.left;
              recorded = hd.is;
              row = refl;
            });
        number = refl;
        columns = hd.columns;
        from = refl;
        payload = refl;
        own = refl;
        values = rw (counted-one r) (omega arith);
        clean = λ i. clear-clean size.length key.length hd.types (length-bounds s 5 e).1 (length-bounds (drop size.length s) 5 f).1 (hd.clean i);
      }

  -- its payload lies in the part, and in that its header
  pub start-lies : {x : Span} → Start g r u s x → (1 ≤ x.header) × (x.header ≤ x.payload) × (x.from + x.payload ≤ length s)
  start-lies {x} b =
      let o = inside r LeafTable u s b.is in
      let own = b.own in
      let values = b.values in
      let payload = b.payload in
      let from = b.from in
      (omega arith, omega (arith, o.held.values), omega (arith, o.within))
