-- The walk decides first; then an accepted table's rows are those that are gone along.
use mathlib.Core.Path.{sym, ap, ◌∙◌}
use Rattle.std.proofs.lemmas.Result.{err_from_is_err_and}
use Rattle.standing.proofs.Whole.{whole}
use Rattle.trust.specs.Trust.{first_refused}
use Rattle.trust.proofs.Firsts.{trust-refused, trust-agrees, trust-parts}
use Rattle.trust.proofs.of_table.Goals as goal

pub returns-in_err-rows : goal.returns-in_err-rows
returns-in_err-rows c =
    let a = c.args in
    let p = err_from_is_err_and c.from_residual.result c.from_residual.ensures.1 in
    rw (p.1, p.2) (sym (trust-refused a.root a.db.now (sym c.in_err-rows.ensures)))

pub returns-in-None : goal.returns-in-None
returns-in-None c =
    let a = c.args in
    let counted = sym c.in_ok-rows.ensures in
    sym (trust-agrees a.root a.db.now counted (ap (first_refused a.db.now) (whole a.root a.db.now counted) ∙ sym c.in-None.ensures))

pub returns-in-Some : goal.returns-in-Some
returns-in-Some c =
    let a = c.args in
    let counted = sym c.in_ok-rows.ensures in
    sym (trust-parts a.root a.db.now counted (ap (first_refused a.db.now) (whole a.root a.db.now counted) ∙ sym c.in-Some.ensures))
