-- The same answer in each place, as long as the addresses name the cell.
use Prim.Native.Nat.{◌+◌}
use mathlib.Core.Path.{sym, ap, subst, ◌∙◌}
use Rattle.turns.specs.declared.types.Shown.{Shown}
use Rattle.addresses.specs.Turns.{Turn, CellAnswers, named_page, named_cell}
use Rattle.addresses.proofs.Lists.{going-stored, going_on, same-cell, same_address}
use Rattle.screen.proofs.rows.refused_in.Goals as goal

pub returns-then-not-names_same : goal.returns-then-not-names_same
returns-then-not-names_same c =
    let a = c.args in
    let l = c.loop-shown in
    subst
    (λ (s : Shown). Turn (CellAnswers (named_page a.at a.addresses.now) (named_cell a.at a.addresses.now) (λ k. s)) a.count a.addresses.now a.at (l.i + 1) a.answers.now c.put.new.answers)
    c.refused_shown-shown.ensures
    (going-stored l.invariant.0 l.invariant.2.0 c.put.ensures (λ f must. sym (ap f (same_address l.invariant.1) ∙ must _)))

pub loop-shown-preserved : goal.loop-shown-preserved
loop-shown-preserved c =
    let a = c.args in
    let l = c.loop-shown in
    let stored = going-stored l.invariant.0 l.invariant.2.0 c.put.ensures (λ f must. sym (ap f (same_address l.invariant.1) ∙ must _)) in
    let same = same-cell a.addresses.now a.count (l.i + 1) a.at (sym c.names_same.ensures ∙ c.if-not-names_same.false) in
    (going_on stored same.there, same, l.invariant.2)
