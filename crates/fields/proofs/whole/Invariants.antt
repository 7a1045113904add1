-- The bytes read so far and those to come spell the same number at every turn.
use Prim.Native.Nat.{◌^◌, ◌<◌}
use mathlib.Core.Path.{◌≡◌}
use lib.ListN.{drop}
use Rattle.fields.specs.Fields.{be}
use Rattle.fields.proofs.Laws.{spells}
use Rattle.fields.proofs.whole.Given as goal

abbrev pub invariant-loop-byte : goal.invariant-loop-byte
invariant-loop-byte l = (l.value < 256 ^ l.byte-index) × (spells l.value (drop l.byte-index l.field) ≡ be l.field)
