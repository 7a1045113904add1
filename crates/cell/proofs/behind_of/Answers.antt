-- The payload is the part that `payload_of` finds, the record what the record reader says of it, and the row number stands
-- behind that or among the numbers.
use mathlib.Core.Path.{sym, ◌∙◌}
use lib.ListN.{take}
use Rattle.std.proofs.lemmas.Result.{err_from_is_err_and}
use Rattle.answers.specs.declared.Fault.TheVariants as fa
use Rattle.record.specs.Record.{record_of}
use Rattle.record.proofs.Kept.{faulted, kept}
use Rattle.cell.specs.Cell.{behind}
use Rattle.cell.proofs.Laws.{found-or}
use Rattle.cell.proofs.behind_of.Goals as goal

pub returns-in_err-payload : goal.returns-in_err-payload
unfolding behind
returns-in_err-payload c =
    let paid = sym (rw c.most_whole.ensures at c.payload_of.ensures) ∙ c.in_err-payload.was in
    let p = err_from_is_err_and c.from_residual.result c.from_residual.ensures.1 in
    rw (p.1, p.2, paid)

pub returns-in_err-record : goal.returns-in_err-record
unfolding behind
returns-in_err-record c =
    let a = c.args in
    let paid = sym (rw c.most_whole.ensures at c.payload_of.ensures) ∙ c.in_ok-payload.was in
    let p = err_from_is_err_and c.from_residual-in_err-record.result c.from_residual-in_err-record.ensures.1 in
    let read = faulted a.reading (record_of a.reading (take c.in_ok-payload.payload a.s.now)) (sym c.record_of.ensures ∙ c.in_err-record.was) in
    rw (p.1, p.2, paid, read)

pub returns-in_err-row : goal.returns-in_err-row
unfolding behind
returns-in_err-row c =
    let a = c.args in
    let paid = sym (rw c.most_whole.ensures at c.payload_of.ensures) ∙ c.in_ok-payload.was in
    let x = kept a.reading (record_of a.reading (take c.in_ok-payload.payload a.s.now)) (sym c.record_of.ensures ∙ c.in_ok-record.was) in
    let row = sym (found-or fa.ClosingCut c.closing_in.result) ∙ sym c.or.ensures ∙ c.in_err-row.was in
    let p = err_from_is_err_and c.from_residual-in_err-row.result c.from_residual-in_err-row.ensures.1 in
    rw (p.1, p.2, paid, x.is, rw c.closing_in.ensures at row)

pub returns : goal.returns
unfolding behind
returns c =
    let a = c.args in
    let paid = sym (rw c.most_whole.ensures at c.payload_of.ensures) ∙ c.in_ok-payload.was in
    let x = kept a.reading (record_of a.reading (take c.in_ok-payload.payload a.s.now)) (sym c.record_of.ensures ∙ c.in_ok-record.was) in
    let row = sym (found-or fa.ClosingCut c.closing_in.result) ∙ sym c.or.ensures ∙ c.in_ok-row.was in
    rw (paid, x.is, rw c.closing_in.ensures at row, x.counted, x.begin)
