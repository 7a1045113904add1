-- A spilled cell was checked: its columns are all there, in its payload.
use mathlib.Core.Path.{◌≡◌}
use native.Mathlib.Omega.{arith}
use lib.ListN.{length, take}
use lib.Seq.{take_all}
use Rattle.reading.specs.declared.Reading.TheVariants.{File as file}
use Rattle.record.specs.Types.{count}
use Rattle.cell.proofs.Inside.{Held}
use Rattle.spilled.specs.Lent.{Spilled, cursor_over}
use Rattle.spilled.proofs.Values.{cursor-over}
use Rattle.checked.specs.Whole.{Whole}
use Rattle.checked.proofs.Found.{held_whole}

pub spilled-whole : (c : Spilled) → Held file c.payload c.cell → length c.payload ≡ c.cell.payload
    → Whole (cursor_over c.cell) (count c.cell.types) c.payload
spilled-whole c h l =
    let t : take c.cell.payload c.payload ≡ c.payload = take_all c.cell.payload c.payload (omega arith) in
    rw (← cursor-over c.cell) (held_whole file 0 c.cell c.payload (rw t h) (omega arith))
