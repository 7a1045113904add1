-- Each turn passes a row that the guarded reading shows.
use mathlib.Core.Path.{sym, ◌∙◌}
use Rattle.trust.proofs.Firsts.{leaf-refused, leaf-shown, leaf-done}
use Rattle.trust.proofs.first_of.Goals as goal

pub returns-in-Err : goal.returns-in-Err
returns-in-Err c =
    let a = c.args in
    sym (leaf-refused a.db.now a.opened c.requires a.opened.cells c.loop-i.i c.loop-i-test.true (sym c.in-Err.ensures)) ∙ c.loop-i.invariant

pub loop-i-preserved : goal.loop-i-preserved
loop-i-preserved c =
    let a = c.args in
    sym (leaf-shown a.db.now a.opened c.requires a.opened.cells c.loop-i.i c.loop-i-test.true (sym c.in_default.ensures)) ∙ c.loop-i.invariant

pub returns : goal.returns
returns c =
    let a = c.args in
    sym (leaf-done a.db.now a.opened a.opened.cells c.loop-i.i c.loop-i-test.false) ∙ c.loop-i.invariant
