-- What is found in the buffer is filled in from the payload that it begins with.
use Prim.Native.Nat.{ℕ, ◌/◌}
use mathlib.Core.Path.{◌≡◌, refl, sym, ap, ◌∙◌}
use mathlib.Core.List.{List}
use lib.ListN.{length, take, drop}
use Rattle.spills.specs.declared.Source.TheVariants.{Buffer}
use Rattle.spilled.specs.Lent as file
use Rattle.spilled.specs.Lent.{lent_by, found_from}
use Rattle.gathered.specs.Rows.{row_from, table_from}
use Rattle.gathered.proofs.Rows.{lent-gathered}
use Rattle.gathered.proofs.row_in.Goals as goal

pub returns-in-Buffer : goal.returns-in-Buffer
returns-in-Buffer c =
    let a = c.args in
    let b = a.buffer.now in
    let x = file.lent_in a.opened a.i (length b) a.db.now in
    let found = c.in-Ok-found_in.field-0.found in
    let told : lent_by x ≡ found_from found c.in-Ok-found_in.field-0.source = sym c.found_in-2.ensures.answer ∙ c.in-Ok-found_in.is in
    let places = length a.table.now / 5 in
    let n = lent-gathered places a.db.now a.table.now a.opened a.i b x refl (rw c.in-Buffer.is at told) in
    let s = rw c.in-Buffer.is at c.row_from-in-Buffer.ensures in
    let q = c.part.ensures ∙ ap (λ (z : List ℕ). take found.cell.payload (drop 0 z)) c.found_in-2.ensures.buffer in
    rw c.if-guarded.false (record {
      answer = s.answer ∙ ap (λ (z : List ℕ). row_from places z found Buffer) q ∙ sym n.0;
      table = s.table ∙ ap (λ (z : List ℕ). table_from places z found a.table.now) q ∙ sym n.1;
      buffer = c.found_in-2.ensures.buffer;
    })
