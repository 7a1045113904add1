-- A cell that is shown lies in its part: the numbers, behind them the payload, and in that the types and values of its record,
-- which fit.
use Prim.Native.Nat.{ℕ, ◌+◌, ◌-◌, ◌≤◌}
use mathlib.Core.Path.{◌≡◌, refl, ap}
use mathlib.Core.List.{List}
use mathlib.Core.Bool.{Bool, true, false}
use native.Mathlib.Omega.{arith}
use lib.ListN.{length, take, drop, length-drop}
use lib.Seq.{length-take-le}
use Rattle.varint.proofs.Laws.{length-bounds}
use Rattle.reading.specs.declared.Reading.{Reading}
use Rattle.reading.specs.declared.Reading.TheVariants.{Old as old, File as file}
use Rattle.reading.specs.Reading.{limit}
use Rattle.record.specs.Types.{done, types_of, count, walk}
use Rattle.record.specs.Record.{type_bytes, values_at, judged, record_of}
use Rattle.record.proofs.Laws.{types-nil, walk-done}
use Rattle.record.proofs.Accepted.{accepted}
use Rattle.kinds.specs.declared.Kind.{Kind}
use Rattle.kinds.specs.Kind.{has_size}
use Rattle.cell.specs.Numbers.{none, numbers_of}
use Rattle.cell.specs.Cell.{Cell, bare, cell_of}
use Rattle.cell.proofs.Laws.{numbered, payload-within}
use Rattle.cell.proofs.Recorded.{record_with, recorded, ended}
use Rattle.record.specs.Record.{fits_with}
use Rattle.std.specs.Prelude.{Ok}

-- q is the payload of the cell c
pub record Held (r : Reading) (q : List ℕ) (c : Cell) : Type 0 where
  -- the header lies in it
  pub values : values_at r c.header ≤ c.payload
  -- the types are those that stand there
  pub types : types_of (limit r) (take (type_bytes r c.header) (drop c.header.length q)) ≡ c.types
  -- and the values fit
  pub left : ℕ
  pub fits : judged r c.types (walk 0 (c.payload - values_at r c.header) c.types) ≡ fits_with (count c.types) left

pub record Inside (r : Reading) (k : Kind) (s : List ℕ) (c : Cell) : Type 0 where
  pub numbers : numbers_of r k s ≡ Ok c.numbers
  pub within : c.numbers.length + c.payload ≤ length s
  pub held : Held r (take c.payload (drop c.numbers.length s)) c

-- a header of no bytes ends where it begins
pub none-begin : (r : Reading) → values_at r none ≡ 0
none-begin old = omega arith
none-begin file = omega arith

pub record-held : (r : Reading) (q : List ℕ) (c : Cell) {left : ℕ} → length q ≡ c.payload → record_of r q ≡ Ok (record_with c left) → Held r q c
record-held r q c {left} l e =
    let a = accepted r q e in
    let b = length-bounds q (limit r) a.header in
    let d = length-drop c.header.length q in
    let room = a.room in
    let f : length (drop c.header.length q) - type_bytes r c.header ≡ c.payload - values_at r c.header = omega arith in
    record { values = omega arith; types = a.types; left = left; fits = rw f at a.fits }

-- a cell with no payload holds no types
none-held : (r : Reading) (q : List ℕ) (c : Cell) → bare c.numbers ≡ c → Held r q c
none-held old q c e = rw (← e) (record { values = omega arith; types = types-nil 5; left = 0; fits = ap (judged old done) (walk-done 0 0) })
none-held file q c e = rw (← e) (record { values = omega arith; types = types-nil 9; left = 0; fits = ap (judged file done) (walk-done 0 0) })

pub inside : (r : Reading) (k : Kind) (u : ℕ) (s : List ℕ) {c : Cell} → cell_of r k u s ≡ Ok c → Inside r k s c
inside r k u s {c} e = go (has_size k) refl
  where
    go : (has : Bool) → has_size k ≡ has → Inside r k s c
    go true h =
        let o = recorded r k u s h e in
        let t = drop c.numbers.length s in
        let w = (numbered r k s o.0).within in
        let p = payload-within r _ _ t o.1.payload in
        let d = length-drop c.numbers.length s in
        record { numbers = o.0; within = omega arith; held = record-held r (take c.payload t) c (length-take-le c.payload t p) o.1.recorded }
    go false h =
        let o = ended r k u s h e in
        let w = (numbered r k s o.0).within in
        let z : 0 ≡ c.payload = cc in
        record { numbers = o.0; within = omega arith; held = none-held r (take c.payload (drop c.numbers.length s)) c o.1 }
