-- The table is the definition's own, and from 12 on one sum serves texts and blobs.
use Prim.Native.Nat.{◌≤◌}
use mathlib.Core.Path.{sym, ap, ◌∙◌}
use native.Mathlib.Omega.{arith}
use Rattle.serial.proofs.Laws.{length-either, width_small, width-reserved, width-long}
use Rattle.serial.proofs.width_of.Goals as goal
use Rattle.std.specs.Prelude.{Some}

pub returns-in-0-to-9 : goal.returns-in-0-to-9
returns-in-0-to-9 c = ap Some c.from.ensures ∙ sym (width_small c.args.serial (omega arith))

pub returns-in-10 : goal.returns-in-10
returns-in-10 c = sym (width-reserved c.args.serial (omega arith) (omega arith))

pub returns-in_default : goal.returns-in_default
returns-in_default c =
    let serial = c.args.serial in
    let long : 12 ≤ serial = omega arith in
    ap Some (length-either serial long) ∙ sym (width-long serial long)
