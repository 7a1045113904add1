-- In the bytes that the cell's cursor counts in.
use Prim.Native.Nat.{ℕ}
use mathlib.Core.List.{List}
use mathlib.Core.Path.{◌≡◌, refl, sym, ap, ◌∙◌}
use lib.ListN.{length, take, drop}
use Rattle.std.proofs.lemmas.Result.{err_from_is_err_and}
use Rattle.place.specs.Place.{file_page}
use Rattle.spills.specs.declared.Source.TheVariants.{Buffer}
use Rattle.spilled.specs.Lent.{lent_of, lent_by, found_from}
use Rattle.spilled.specs.Values.{value_of}
use Rattle.spilled.specs.Steps.{value_over}
use Rattle.spilled.proofs.Values.{value-refused, value-whole, value-gathered}
use Rattle.spilled.proofs.value.Goals.{In_ok-found}
use Rattle.spilled.proofs.value.Goals as goal

pub returns-in_err-found-clause-answer : goal.returns-in_err-found-clause-answer
unfolding value_of
returns-in_err-found-clause-answer c =
    let a = c.args in
    let f = rw c.file.ensures at c.found.ensures in
    let x = lent_of (file_page a.number) a.i (length a.buffer.now) a.db.now in
    let p = err_from_is_err_and c.from_residual.result c.from_residual.ensures.1 in
    rw (p.1, p.2) (sym (value-refused (file_page a.number) a.i a.k a.db.now a.buffer.now x (sym f.answer ∙ c.in_err-found.was)))

-- what is found, by its parts
told : (c : In_ok-found) → lent_by (lent_of (file_page c.args.number) c.args.i (length c.args.buffer.now) c.args.db.now)
    ≡ found_from c.in_ok-found.field-0.found c.in_ok-found.field-0.source
told c = sym (rw c.file.ensures at c.found.ensures.answer) ∙ c.in_ok-found.was

pub returns-in-Database-clause-answer : goal.returns-in-Database-clause-answer
unfolding value_of
returns-in-Database-clause-answer c =
    let a = c.args in
    let x = lent_of (file_page a.number) a.i (length a.buffer.now) a.db.now in
    let s = rw c.in-Database.is at (told (goal.at.returns-in-Database-clause-answer c).In_ok-found) in
    rw c.in-Database.is at c.value_in.ensures ∙ value-whole (file_page a.number) a.i a.k a.db.now a.buffer.now x refl s

pub returns-in-Buffer-clause-answer : goal.returns-in-Buffer-clause-answer
unfolding value_of
returns-in-Buffer-clause-answer c =
    let a = c.args in
    let x = lent_of (file_page a.number) a.i (length a.buffer.now) a.db.now in
    let s = rw c.in-Buffer.is at (told (goal.at.returns-in-Buffer-clause-answer c).In_ok-found) in
    let found = c.in_ok-found.field-0.found in
    let b = rw c.file.ensures at c.found.ensures.buffer in
    let q = c.part.ensures ∙ ap (λ (z : List ℕ). take found.cell.payload (drop 0 z)) b in
    rw c.in-Buffer.is at c.value_in-in-Buffer.ensures ∙ ap (λ (z : List ℕ). value_over a.k z found Buffer) q
    ∙ value-gathered (file_page a.number) a.i a.k a.db.now a.buffer.now x refl s
