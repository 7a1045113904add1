-- The header's checks, then the walk.
use mathlib.Core.Path.{sym, ap}
use Rattle.std.proofs.lemmas.Result.{err_from_is_err_and}
use Rattle.trace.proofs.Steps.{table-flawed, table-shaped}
use Rattle.walk.specs.Counted.{count_by, count_of}
use Rattle.walk.proofs.count.Goals as goal

pub returns-in_err-shape : goal.returns-in_err-shape
unfolding count_of
returns-in_err-shape c =
    let a = c.args in
    let p = err_from_is_err_and c.from_residual.result c.from_residual.ensures.1 in
    rw (p.1, p.2, table-flawed a.root a.db.now (sym c.in_err-shape.ensures))

pub returns-in_err-walk : goal.returns-in_err-walk
unfolding count_of
returns-in_err-walk c =
    let a = c.args in
    let p = err_from_is_err_and c.from_residual-in_err-walk.result c.from_residual-in_err-walk.ensures.1 in
    rw (p.1, p.2, table-shaped a.root a.db.now (sym c.in_ok-shape.ensures)) (ap count_by c.in_err-walk.ensures)

pub returns : goal.returns
unfolding count_of
returns c =
    let a = c.args in
    rw (table-shaped a.root a.db.now (sym c.in_ok-shape.ensures)) (ap count_by c.in_ok-walk.ensures)
