-- A first byte that ends the number by the law of one byte, any other by the loop.
use mathlib.Core.Path.{sym, ◌∙◌}
use native.Mathlib.Omega.{arith}
use Rattle.varint.proofs.Laws.{one_byte}
use Rattle.varint.proofs.read.Goals as goal

pub returns : goal.returns
returns c =
    let there = c.in-Some.ensures.item.3 in
    let first = there.1 0 in
    rw (c.from.ensures ∙ first) (sym (one_byte c.args.s.now c.args.limit (omega arith) there.0 (omega arith)))
