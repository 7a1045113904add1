-- Where a varint took more than five bytes, or a type is 9, 12 or 13, the old reading refuses a cell of a table leaf, has
-- fewer columns of it, or has one of those types, which it shows otherwise.
use Prim.Native.Nat.{ℕ, zero, suc, ◌+◌, ◌-◌, ◌≤◌, ◌<◌}
use mathlib.Core.Path.{◌≡◌, refl, sym, subst, ◌∙◌}
use mathlib.Core.List.{List, ◌++◌}
use mathlib.Core.Bool.{Bool, true, false, ◌||◌}
use native.Mathlib.Omega.{arith}
use lib.Dec.{eqb}
use lib.ListN.{length, take, drop, length-append}
use lib.Seq.{take-add, take-append-le, take-length}
use borrow.Author.Tests.{eqb-true, le-ltb}
use Rattle.laws.proofs.Never.{never}
use Rattle.varint.specs.Varint.{varint_of}
use Rattle.varint.proofs.Laws.{length-bounds, same_number, bytes-behind, left_behind}
use Rattle.reading.specs.declared.Reading.TheVariants.{Old as old, File as file}
use Rattle.varint.specs.declared.Number.{Number}
use Rattle.record.specs.Record.{Record}
use Rattle.record.specs.Types.{Types, done, broken, column, types_of, count, nth_type}
use Rattle.record.proofs.Laws.{types-next, types-broken, nth-next}
use Rattle.record.proofs.Spelt.{Spelt, ended, stopped, further, spelt}
use Rattle.record.proofs.Accepted.{Accepted, accepted}
use Rattle.kinds.specs.declared.Kind.TheVariants.{LeafTable}
use Rattle.cell.specs.Cell.{Cell, cell_of}
use Rattle.cell.proofs.Recorded.{record_with}
use Rattle.cell.proofs.Leaf.{Leaf, leaf}
use Rattle.marks.specs.Marks.{some, long_type, stored_one, empty_value, long_varint}
use Rattle.laws.proofs.Bools.{neither}
use Rattle.marks.proofs.Behind.{size-on, key-on, payload, beyond, payload-on}
use Rattle.std.specs.Prelude.{Err, Ok, Result}
use Rattle.varint.specs.declared.Cause.{Cause}

-- the types whose values the readings show otherwise
pub data Otherwise : ℕ → Type 0 where
  nine : Otherwise 9
  twelve : Otherwise 12
  thirteen : Otherwise 13

-- none of them is among types that have no such mark
pub none-otherwise : (k : ℕ) (ts : Types) → some stored_one ts ≡ false → some empty_value ts ≡ false → k < count ts → Otherwise (nth_type k ts) → ⊥
none-otherwise k done i j l o = absurd (omega arith)
none-otherwise k broken i j l o = absurd (omega arith)
none-otherwise zero (column t rest) i j l o =
    go t.value o (neither (stored_one t) (some stored_one rest) i).0 (neither (empty_value t) (some empty_value rest) j).0
  where
    go : (x : ℕ) → Otherwise x → eqb x 9 ≡ false → (eqb x 12 || eqb x 13) ≡ false → ⊥
    go x nine e f = never cc
    go x twelve e f = never cc
    go x thirteen e f = never cc
none-otherwise (suc k) (column t rest) i j l o =
    none-otherwise k rest (neither (stored_one t) (some stored_one rest) i).1 (neither (empty_value t) (some empty_value rest) j).1 (omega arith)
    (rw (nth-next k t rest) at o)

-- what tells the old types os of a record from the file's fs
pub data Apart (os fs : Types) : Type 0 where
  fewer : count os < count fs → Apart os fs
  other : (k t : ℕ) → k < count os → k < count fs → nth_type k os ≡ t → nth_type k fs ≡ t → Otherwise t → Apart os fs

-- the same type before both
later : (t : Number) (os fs : Types) → Apart os fs → Apart (column t os) (column t fs)
later t os fs (fewer l) = fewer (omega arith)
later t os fs (other k x i j e f o) = other (suc k) x (omega arith) (omega arith) (nth-next k t os ∙ e) (nth-next k t fs ∙ f) o

-- TYPES

abbrev odd : Types → Bool
odd ts = some long_type ts || (some stored_one ts || some empty_value ts)

-- by what the first type of both is
first : (t : Number) (os fs : Types) → t.length ≤ 5 → odd (column t fs) ≡ true → (odd fs ≡ true → Apart os fs)
    → Apart (column t os) (column t fs)
first t os fs l e next = go (eqb t.value 9) (eqb t.value 12) (eqb t.value 13) refl refl refl (rw (le-ltb 5 t.length l) at e)
  where
    here : Otherwise t.value → Apart (column t os) (column t fs)
    here o = other 0 t.value (omega arith) (omega arith) refl refl o

    go : (a b c : Bool) → eqb t.value 9 ≡ a → eqb t.value 12 ≡ b → eqb t.value 13 ≡ c
        → (some long_type fs || ((a || some stored_one fs) || ((b || c) || some empty_value fs))) ≡ true
        → Apart (column t os) (column t fs)
    go true b c i j k f = here (subst Otherwise (sym (eqb-true t.value 9 i)) nine)
    go false true c i j k f = here (subst Otherwise (sym (eqb-true t.value 12 j)) twelve)
    go false false true i j k f = here (subst Otherwise (sym (eqb-true t.value 13 k)) thirteen)
    go false false false i j k f = later t os fs (next f)

-- the old types are read on into the bytes z; they are the file's, up to one that is too long
types-apart : (z : List ℕ) {s : List ℕ} {ts : Types} → Spelt 9 s ts → odd ts ≡ true → Apart (types_of 5 (s ++ z)) ts
types-apart z ended e = never cc
types-apart z (stopped l i) e = never cc
types-apart z (further {s} {t} {rest} i r) e = go (varint_of 5 (s ++ z)) refl (types-apart z r)
  where
    go : (v : Result Number Cause) → varint_of 5 (s ++ z) ≡ v → (odd rest ≡ true → Apart (types_of 5 (drop t.length s ++ z)) rest)
        → Apart (types_of 5 (s ++ z)) (column t rest)
    go (Err c) j next =
        let w = length-bounds s 9 i in
        rw (types-broken 5 (s ++ z) (simp length-append (omega arith)) j) (fewer (omega arith))
    go (Ok x) j next =
        let q = same_number (s ++ z) 5 9 (omega arith) j (bytes-behind s 9 z i) in
        let w = length-bounds (s ++ z) 5 (rw q at j) in
        let k = rw (q, left_behind s 9 z i) at (types-next 5 (s ++ z) j) in
        rw k (first t (types_of 5 (drop t.length s ++ z)) rest w.1 e next)

-- THE RECORD: the same header size, and the old types are read from the file's bytes y of types and `own` - 1 more

read-on : (h own : ℕ) (y z : List ℕ) → 1 ≤ own → own ≤ h → h - own ≤ length y
    → take (h - 1) (y ++ z) ≡ take (h - own) y ++ take (own - 1) (drop (h - own) (y ++ z))
read-on h own y z i j k =
    let e : h - 1 ≡ h - own + (own - 1) = omega arith in rw (e, take-add (h - own) (own - 1) (y ++ z), take-append-le (h - own) y z k)

record_apart : (q z : List ℕ) {c d : Record} → Accepted file q c → Accepted old (q ++ z) d
    → (c.header.length ≤ 5) × (odd c.types ≡ true → Apart d.types c.types)
record_apart q z {c} {d} a b =
    let h = c.header in
    let y = drop h.length q in
    let i = same_number (q ++ z) 5 9 (omega arith) b.header (bytes-behind q 9 z a.header) in
    let w = length-bounds (q ++ z) 5 (rw i at b.header) in
    let t = read-on h.value h.length y z (omega arith) a.low a.room in
    let u = rw (i, left_behind q 9 z a.header, t) at b.types in
    let types = rw a.types at (spelt 9 (take (h.value - h.length) y)) in
    (omega arith, λ e. rw (← u) (types-apart (take (h.length - 1) (drop (h.value - h.length) (y ++ z))) types e))

-- THE CELL

-- the old reading's payload q is all that stands behind the numbers
old-record : (u : ℕ) (s q : List ℕ) {c : Cell} (o : Leaf old u s c) → drop c.numbers.length s ≡ q → Accepted old q (record_with c o.left)
old-record u s q {c} o i =
    let l = drop c.numbers.length s in
    let e : length l ≡ c.payload = let f = o.payload in cc in
    accepted old q (rw (← e, take-length l, i) at o.recorded)

pub apart : (u u' : ℕ) (s z : List ℕ) {c d : Cell} → cell_of file LeafTable u s ≡ Ok c
    → (long_varint c.numbers.size.length c.numbers.key.length c.header.length c.types || (some stored_one c.types || some empty_value c.types)) ≡ true
    → cell_of old LeafTable u' (s ++ z) ≡ Ok d → Apart d.types c.types
apart u u' s z {c} {d} e m f =
    let n = c.numbers in
    let o = leaf file u s e in
    let o' = leaf old u' (s ++ z) f in
    let i = same_number (s ++ z) 5 9 (omega arith) o'.size (size-on u s z o) in
    let row = rw i at o'.key in
    let j = same_number (drop n.size.length (s ++ z)) 5 9 (omega arith) row (key-on u s z o) in
    let g : d.numbers ≡ n = sym o'.numbers ∙ rw (i, j) o.numbers in
    let k : drop d.numbers.length (s ++ z) ≡ payload u s z o ++ beyond u s z o = rw g (payload-on u s z o) in
    let a = accepted file (payload u s z o) o.recorded in
    let b = old-record u' (s ++ z) (payload u s z o ++ beyond u s z o) o' k in
    let x = record_apart (payload u s z o) (beyond u s z o) a b in
    let w = length-bounds (s ++ z) 5 (rw i at o'.size) in
    let v = length-bounds (drop n.size.length (s ++ z)) 5 (rw j at row) in
    x.1 (rw (le-ltb 5 n.size.length w.1, le-ltb 5 n.key.length v.1, le-ltb 5 c.header.length x.0) at m)
