-- The kind decides first, then the cell, then its mark.
use Prim.Native.Nat.{ℕ}
use mathlib.Core.Path.{◌≡◌, sym, ap, ◌∙◌}
use mathlib.Core.List.{List}
use mathlib.Core.Bool.{true}
use Rattle.std.proofs.lemmas.Result.{err_from_is_err_and}
use Rattle.std.specs.Prelude.{Err, Ok}
use Rattle.answers.specs.declared.Refusal.TheVariants.{InCell}
use Rattle.answers.specs.declared.Fault.TheVariants as fa
use Rattle.kinds.specs.Kind.{is_leaf_table}
use Rattle.marks.specs.Marks.{mark_of}
use Rattle.page.specs.declared.Open.{Open}
use Rattle.cells.specs.Located as cells
use Rattle.cells.proofs.Laws.{held}
use Rattle.row.specs.declared.FoundCell.{FoundCell}
use Rattle.row.specs.Found.{found_by}
use Rattle.row.proofs.Told.{Told, told, told-refused}
use Rattle.row.proofs.Placed.{placed-in}
use Rattle.guarded.specs.Guarded.{unmarked, located_in}
use Rattle.guarded.proofs.Guard.{guarded_by, other-in, leaf-in}
use Rattle.guarded.proofs.Marked.{types-within, mark-is}
use Rattle.guarded.proofs.found_in.Goals as goal

pub returns-then-not-is_leaf_table : goal.returns-then-not-is_leaf_table
returns-then-not-is_leaf_table c =
    let a = c.args in
    let t = sym c.is_leaf_table.ensures ∙ c.if-not-is_leaf_table.true in
    rw (c.refusal.ensures, other-in a.opened a.i a.db.now t)

pub returns-in_err-found : goal.returns-in_err-found
returns-in_err-found c =
    let a = c.args in
    let t = sym c.is_leaf_table.ensures ∙ c.if-not-is_leaf_table.false in
    let e = told-refused (cells.located_in a.opened a.i a.db.now) (sym c.found_in.ensures ∙ c.in_err-found.was) in
    let p = err_from_is_err_and c.from_residual.result c.from_residual.ensures.1 in
    rw (p.1, p.2, leaf-in a.opened a.i a.db.now t, e)

-- the cell that is located, on a table leaf
by-mark : (o : Open) (i : ℕ) (db : List ℕ) {f : FoundCell} (t : Told (cells.located_in o i db) f) → is_leaf_table o.kind ≡ true
    → located_in o i db ≡ unmarked i t.l (mark_of t.l.cell)
by-mark o i db t leaf = leaf-in o i db leaf ∙ ap (guarded_by i) t.is

pub marking-requires-clause-bound : goal.marking-requires-clause-bound
marking-requires-clause-bound c =
    let a = c.args in
    let t = told (cells.located_in a.opened a.i a.db.now) (sym c.found_in.ensures ∙ c.in_ok-found.was) in
    (types-within t.l a.db.now t.same (placed-in a.opened a.i a.db.now t.is)).1

pub returns-in-Some : goal.returns-in-Some
returns-in-Some c =
    let a = c.args in
    let t = told (cells.located_in a.opened a.i a.db.now) (sym c.found_in.ensures ∙ c.in_ok-found.was) in
    let leaf = sym c.is_leaf_table.ensures ∙ c.if-not-is_leaf_table.false in
    let m = sym (mark-is t.l a.db.now t.same (placed-in a.opened a.i a.db.now t.is)) ∙ sym c.marking.ensures ∙ c.in-Some.is in
    let its = (held a.opened a.i a.db.now t.is).opened in
    let on-it = ap (λ (o : Open). Err (InCell o.page.number a.i (fa.Marked c.in-Some.mark))) its in
    rw c.refusal_in.ensures (sym (ap found_by (by-mark a.opened a.i a.db.now t leaf ∙ ap (unmarked a.i t.l) m ∙ on-it)))

pub returns : goal.returns
returns c =
    let a = c.args in
    let t = told (cells.located_in a.opened a.i a.db.now) (sym c.found_in.ensures ∙ c.in_ok-found.was) in
    let leaf = sym c.is_leaf_table.ensures ∙ c.if-not-is_leaf_table.false in
    let m = sym (mark-is t.l a.db.now t.same (placed-in a.opened a.i a.db.now t.is)) ∙ sym c.marking.ensures ∙ c.in_default.is in
    ap Ok (sym t.same) ∙ sym (ap found_by (by-mark a.opened a.i a.db.now t leaf ∙ ap (unmarked a.i t.l) m))
