-- Whether its payload spills is known from a cell's numbers.
use mathlib.Core.Path.{sym, ◌∙◌}
use lib.ListN.{length}
use Rattle.spilled.proofs.Numbered.{lent-unnumbered, lent-fitting, lent-over}
use Rattle.spilled.proofs.found_in.Goals as goal

pub returns-in-Err : goal.returns-in-Err
returns-in-Err c =
    let a = c.args in
    let l = lent-unnumbered a.opened a.i (length a.buffer.now) a.db.now a.buffer.now (sym c.numbers_in.ensures ∙ c.in-Err.is) in
    record { answer = sym l.0; buffer = sym l.1 }

pub returns-in-Ok : goal.returns-in-Ok
returns-in-Ok c =
    let a = c.args in
    let n = sym c.numbers_in.ensures ∙ c.in-Ok.is in
    let t = sym c.is_over.ensures ∙ c.if-is_over.true in
    let l = lent-over a.opened a.i (length a.buffer.now) a.db.now a.buffer.now n t in
    record { answer = c.spilled_by.ensures.answer ∙ sym l.0; buffer = c.spilled_by.ensures.buffer ∙ sym l.1 }

pub returns-in-Ok-2 : goal.returns-in-Ok-2
returns-in-Ok-2 c =
    let a = c.args in
    let n = sym c.numbers_in.ensures ∙ c.in-Ok.is in
    let t = sym c.is_over.ensures ∙ c.if-is_over.false in
    let l = lent-fitting a.opened a.i (length a.buffer.now) a.db.now a.buffer.now n t in
    record { answer = c.found_on.ensures ∙ sym l.0; buffer = sym l.1 }
