-- A type of one byte is that byte; a longer one is found by the larger limit, too.
use mathlib.Core.Path.{sym, ap, ◌∙◌}
use native.Mathlib.Omega.{arith}
use Rattle.columns.proofs.Laws.{type-within, type-byte}
use Rattle.checked.specs.Whole.{number_by}
use Rattle.checked.proofs.Laws.{type-nine}
use Rattle.screen.proofs.rows.type_at.Goals as goal

pub bounds-db-here : goal.bounds-db-here
bounds-db-here c = (type-within c.args.here c.args.db.now c.requires.read).1

pub returns-then-serial-lt128 : goal.returns-then-serial-lt128
returns-then-serial-lt128 c =
    let b = rw c.from-serial.ensures at c.if-serial-lt128.true in
    rw c.from-serial.ensures (sym (type-byte c.args.here c.args.db.now c.requires.read b)) ∙ sym (ap number_by c.requires.read)

pub slice_bounds-type_in-count : goal.slice_bounds-type_in-count
slice_bounds-type_in-count c =
    let w = type-within c.args.here c.args.db.now c.requires.read in
    omega (arith, w.0, w.1)

pub slice_bounds-type_in-start : goal.slice_bounds-type_in-start
slice_bounds-type_in-start c =
    let w = type-within c.args.here c.args.db.now c.requires.read in
    omega (arith, w.0, w.1)

pub returns : goal.returns
returns c =
    c.type_in.ensures ∙ type-nine c.args.db.now c.args.here c.requires.read ∙ sym (ap number_by c.requires.read)
