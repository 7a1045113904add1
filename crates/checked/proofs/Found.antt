-- A cell that is located was checked: its columns are all there.
use Prim.Native.Nat.{ℕ, ◌+◌, ◌-◌, ◌≤◌}
use mathlib.Core.Path.{◌≡◌, ap}
use mathlib.Core.List.{List}
use native.Mathlib.Omega.{arith}
use lib.ListN.{length, take, drop}
use Rattle.reading.specs.declared.Reading.{Reading}
use Rattle.record.specs.Types.{count}
use Rattle.record.specs.Record.{values_at}
use Rattle.cell.specs.Cell.{Cell}
use Rattle.cell.proofs.Inside.{Held}
use Rattle.columns.specs.Opened.{cursor_at}
use Rattle.columns.proofs.Opened.{cursor-types}
use Rattle.page.specs.declared.Open.{Open}
use Rattle.cells.specs.Located.{Located}
use Rattle.cells.specs.Located as cells
use Rattle.row.specs.Found.{payload_from, cursor_in}
use Rattle.row.proofs.Placed.{placed-in}
use Rattle.checked.specs.Whole.{Whole}
use Rattle.std.specs.Prelude.{Ok}

-- a cell whose payload stands at `base` of the bytes
pub held_whole : (r : Reading) (base : ℕ) (c : Cell) (bytes : List ℕ) → Held r (take c.payload (drop base bytes)) c → base + c.payload ≤ length bytes
    → Whole (cursor_at r base c) (count c.types) bytes
held_whole r base c bytes h l =
    let e = cursor-types r base c bytes h in
    let room : base + c.payload - (base + values_at r c.header) ≡ c.payload - values_at r c.header = omega arith in
    record {
      ordered = omega (arith, h.values);
      within = l;
      header = omega (arith, h.values);
      left = h.left;
      fits = rw (e, room) h.fits;
      columns = ap count e;
    }

module _ (o : Open) (i : ℕ) (db : List ℕ) where
  pub in_place : {l : Located} → cells.located_in o i db ≡ Ok l → Whole (cursor_in l) (count l.cell.types) db
  in_place {l} e = let p = placed-in o i db e in held_whole l.opened.page.reading (payload_from l) l.cell db p.held p.within
