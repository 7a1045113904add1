-- Numbers that are not read are cut, whatever is told.
use Prim.Native.Nat.{◌≤◌}
use mathlib.Core.Path.{sym, ◌∙◌}
use borrow.Author.Tests.{lt-ltb}
use Rattle.cell.proofs.Kept.{numbers-cut}
use Rattle.cells.specs.Pointers.{part_at}
use Rattle.cells.specs.Numbered.{numbers_at}
use Rattle.cells.proofs.numbers_from.Goals as goal

pub returns-in_default : goal.returns-in_default
unfolding numbers_at
returns-in_default c =
    let o = c.args.opened in
    let within = sym c.is_outside.ensures ∙ c.if-is_outside.false in
    let told = sym c.numbers_of.ensures ∙ c.in_default.is in
    let cut = numbers-cut o.page.reading o.kind (part_at o c.pointer_at-pointer.result c.args.page.now) told in
    rw (lt-ltb _ _ c.if-opened-i.false, sym c.pointer_at-pointer.ensures, within, told, cut, c.refusal_in-in_default.ensures)
