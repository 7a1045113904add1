-- The table for types of fixed width, a sum for texts and blobs.
use Prim.Native.Nat.{◌≤◌, ◌<◌}
use mathlib.Core.Path.{sym, ap, ◌∙◌}
use mathlib.Core.Logic.{inl, inr}
use native.Mathlib.Omega.{arith}
use Rattle.serial.proofs.Laws.{length-either, width_small, width-long}
use Rattle.layout.proofs.width_of.Goals as goal
use Rattle.std.specs.Prelude.{Some}

pub returns-then-serial-lt10 : goal.returns-then-serial-lt10
returns-then-serial-lt10 c = let a = c.args in
    let h : a.serial < 10 = c.if-serial-lt10.true in
    record {
      byte = omega arith;
      has = width_small a.serial h ∙ ap Some (sym c.short_width.ensures);
      other = λ e. absurd (omega arith);
      sort = inl h;
    }

pub returns : goal.returns
returns c = let s = c in
    let serial = s.args.serial in
    let h : s.args.least ≤ serial = c.if-serial-least.false in
    let l : 12 ≤ serial = omega (arith, s.requires.high) in
    record {
      byte = c.if-serial-ge128.false;
      has = width-long serial l ∙ ap Some (sym (length-either serial l));
      other = λ e. absurd (omega (arith, s.requires.low));
      sort = inr h;
    }
