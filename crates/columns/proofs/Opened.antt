-- A cursor that is opened on a cell goes along the types of the cell, and finds its columns.
use Prim.Native.Nat.{ℕ, ◌+◌, ◌-◌, ◌≤◌}
use mathlib.Core.Path.{◌≡◌, ap, ◌∙◌}
use mathlib.Core.List.{List}
use native.Mathlib.Omega.{arith}
use lib.ListN.{length, take, drop}
use lib.Seq.{drop-drop}
use Rattle.laws.proofs.Parts.{part}
use Rattle.reading.specs.declared.Reading.{Reading}
use Rattle.record.specs.Record.{type_bytes, values_at}
use Rattle.cell.specs.Cell.{Cell}
use Rattle.cell.proofs.Inside.{Held}
use Rattle.columns.specs.Columns.{types_at, slot_in, slot_of}
use Rattle.columns.specs.Opened.{cursor_at}
use Rattle.columns.proofs.Laws.{slot-within}

-- the payload of the cell c stands at `base` of the bytes
module _ (r : Reading) (base : ℕ) (c : Cell) (db : List ℕ) (held : Held r (take c.payload (drop base db)) c) where
  pub cursor-types : types_at (cursor_at r base c) db ≡ c.types
  cursor-types =
      let n : base + values_at r c.header - (base + c.header.length) ≡ type_bytes r c.header = omega arith in
      rw (n, ← drop-drop c.header.length base db, ← part (type_bytes r c.header) c.header.length c.payload (drop base db) held.values) held.types

  pub cursor-slots : base + c.payload ≤ length db → (k : ℕ)
      → slot_of k (cursor_at r base c) db ≡ slot_in k (base + values_at r c.header) (base + c.payload) c.types
  cursor-slots l k =
      slot-within (cursor_at r base c) db l k ∙ ap (slot_in k (base + values_at r c.header) (base + c.payload)) cursor-types
