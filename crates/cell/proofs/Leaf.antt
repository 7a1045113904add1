-- A cell of a table leaf that is shown, taken apart once, and put together again.
use Prim.Native.Nat.{ℕ, ◌+◌}
use mathlib.Core.Path.{◌≡◌, refl, ap, ◌∙◌}
use mathlib.Core.List.{List}
use mathlib.Core.Bool.{false}
use native.Mathlib.Nat.{zero-add}
use native.Mathlib.Omega.{arith}
use lib.ListN.{take, drop}
use Rattle.varint.specs.declared.Number.{Number}
use Rattle.varint.specs.Varint.{varint_of}
use Rattle.reading.specs.declared.Reading.{Reading}
use Rattle.reading.specs.declared.Reading.TheVariants.{Old as old, File as file}
use Rattle.reading.specs.Reading.{limit}
use Rattle.record.specs.Record.{record_of}
use Rattle.kinds.specs.declared.Kind.TheVariants.{LeafTable}
use Rattle.kinds.specs.Kind.{has_closing, most_whole}
use Rattle.cell.specs.declared.Numbers.{Numbers}
use Rattle.cell.specs.Numbers.{numbers_of}
use Rattle.cell.specs.Cell.{Cell, payload_in, cell_of}
use Rattle.cell.proofs.Laws.{numbered, numbers-read}
use Rattle.cell.proofs.Recorded.{record_with, recorded, recorded-again}
use Rattle.std.specs.Prelude.{Ok}

-- the numbers of a table leaf's cell: no child
abbrev pub leaf_numbers : Number → Number → Numbers
leaf_numbers size key = record { child = 0; size = size; key = key; length = size.length + key.length }

pub record Leaf (r : Reading) (u : ℕ) (s : List ℕ) (c : Cell) : Type 0 where
  pub size : varint_of (limit r) s ≡ Ok c.numbers.size
  pub key : varint_of (limit r) (drop c.numbers.size.length s) ≡ Ok c.numbers.key
  pub numbers : leaf_numbers c.numbers.size c.numbers.key ≡ c.numbers
  pub payload : payload_in r (most_whole LeafTable u) c.numbers.size.value (drop c.numbers.length s) ≡ Ok c.payload
  -- how many bytes of the payload stand behind the values
  pub left : ℕ
  pub recorded : record_of r (take c.payload (drop c.numbers.length s)) ≡ Ok (record_with c left)
  pub row : c.numbers.key ≡ c.row

unclosed : (r : Reading) → has_closing r LeafTable ≡ false
unclosed old = refl
unclosed file = refl

module _ (r : Reading) (u : ℕ) (s : List ℕ) {c : Cell} where
  pub leaf : cell_of r LeafTable u s ≡ Ok c → Leaf r u s c
  leaf e =
      let o = recorded r LeafTable u s refl e in
      let n = numbered r LeafTable s o.0 in
      let q : Ok c.numbers.key ≡ Ok c.row = rw (unclosed r) at o.1.row in
      record {
        size = n.size;
        key = rw zero-add at n.key;
        numbers = rw zero-add at n.is;
        payload = o.1.payload;
        left = o.1.left;
        recorded = o.1.recorded;
        row = cc;
      }

  pub leaf-again : Leaf r u s c → cell_of r LeafTable u s ≡ Ok c
  leaf-again o =
      let n : numbers_of r LeafTable s ≡ Ok c.numbers = rw zero-add at (numbers-read r LeafTable s (omega arith) o.size {key = c.numbers.key} (rw zero-add o.key)) ∙ ap Ok o.numbers in
      recorded-again r LeafTable u s refl n (record { payload = o.payload; left = o.left; recorded = o.recorded; row = rw (unclosed r) (ap Ok o.row) })
