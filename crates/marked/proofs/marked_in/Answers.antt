-- A spilled cell that the file reading accepts has a mark.
use mathlib.Core.Path.{◌≡◌, sym, ap, ◌∙◌}
use Prim.Native.Nat.{ℕ}
use mathlib.Core.List.{List}
use lib.ListN.{length, take, drop}
use Rattle.answers.specs.declared.Fault.TheVariants as fa
use Rattle.answers.specs.declared.Refusal.TheVariants.{InCell}
use Rattle.chain.specs.Gathered.{gathered_in, buffer_by}
use Rattle.spilled.specs.Lent.{Spilled, spilled_in}
use Rattle.marks.specs.Marks.{or_spilled}
use Rattle.marked.specs.Marked.{marked_in}
use Rattle.marked.specs.Steps.{mark_over}
use Rattle.spilled.proofs.Got.{spilled-got}
use Rattle.marked.proofs.Marks.{marked-shown}
use Rattle.marked.proofs.marked_in.Goals as goal
use Rattle.std.specs.Prelude.{Ok}

pub returns-in-Ok-clause-answer : goal.returns-in-Ok-clause-answer
unfolding marked_in
returns-in-Ok-clause-answer c =
    let a = c.args in
    let b = a.buffer.now in
    let found = c.in-Ok.field-0.found in
    let x = spilled_in a.opened a.i (length b) a.db.now in
    let g = sym c.spilled_in.ensures.answer ∙ c.in-Ok.is in
    let after = buffer_by (gathered_in a.opened a.i (length b) a.db.now) b in
    let e = marked-shown a.i after b x {f = found} {source = c.in-Ok.field-0.source} g (λ (d : Spilled) (h : x ≡ Ok d). spilled-got a.opened a.i a.db.now b h) in
    let q = c.part.ensures ∙ ap (λ (z : List ℕ). take found.cell.payload (drop 0 z)) c.spilled_in.ensures.buffer in
    let mark = c.mark_of-mark.ensures ∙ ap (λ (z : List ℕ). or_spilled (mark_over found z)) q in
    c.refusal_in.ensures ∙ ap (λ z. InCell found.page.number a.i (fa.Marked z)) mark ∙ sym e
