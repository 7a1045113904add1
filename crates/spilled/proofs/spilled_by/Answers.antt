-- The payload that was gathered is what the buffer begins with.
use Prim.Native.Nat.{ℕ}
use mathlib.Core.Path.{sym, ap, ◌∙◌}
use mathlib.Core.List.{List}
use lib.ListN.{length, take, drop}
use Rattle.spilled.specs.Steps.{recorded_by}
use Rattle.spilled.proofs.Laws.{numbered-recorded}
use Rattle.spilled.proofs.spilled_by.Goals as goal

pub returns-clause-answer : goal.returns-clause-answer
returns-clause-answer c =
    let a = c.args in
    let b = a.buffer.now in
    let e = numbered-recorded a.opened a.i a.numbers (length b) a.db.now b (sym c.gather_in.ensures.answer ∙ c.in_ok-size.was) in
    let q = c.part.ensures ∙ ap (λ (z : List ℕ). take c.in_ok-size.size (drop 0 z)) c.gather_in.ensures.buffer in
    c.recorded.ensures ∙ ap (recorded_by a.opened.page a.i a.numbers) q ∙ sym e
