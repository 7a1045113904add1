-- The mark of a spilled cell, from the code's answer to the definition's.
use Prim.Native.Nat.{ℕ, ◌-◌}
use mathlib.Core.Path.{◌≡◌, refl}
use mathlib.Core.List.{List}
use native.Mathlib.Omega.{arith}
use lib.ListN.{take, drop}
use Rattle.laws.proofs.Never.{never}
use Rattle.reading.specs.declared.Reading.TheVariants.{File as file}
use Rattle.answers.specs.declared.Fault.TheVariants as fa
use Rattle.answers.specs.declared.Refusal.{Refusal}
use Rattle.answers.specs.declared.Refusal.TheVariants.{InCell}
use Rattle.record.specs.Record.{type_bytes, values_at}
use Rattle.row.specs.declared.FoundCell.{FoundCell}
use Rattle.spills.specs.declared.Source.{Source}
use Rattle.spilled.specs.Lent.{Spilled, gathered_by}
use Rattle.marks.specs.Marks.{or_spilled}
use Rattle.marked.specs.Marked.{marked_by}
use Rattle.marked.specs.Steps.{mark_over}
use Rattle.spilled.proofs.Got.{Got}
use Rattle.spilled.proofs.Parts.{found-parts}
use Rattle.spilled.proofs.Values.{got-part}
use Rattle.spilled.specs.Lent.{found_from}
use Rattle.std.specs.Prelude.{Err, Ok, Result}

module _ (i : ℕ) where
  -- as the file reading refuses it
  pub marked_refused : (x : Result Spilled Refusal) {refusal : Refusal} → gathered_by x ≡ Err refusal → marked_by i x ≡ refusal
  marked_refused (Err other) e = cc
  marked_refused (Ok c) e = never cc

  -- the buffer begins with its payload
  pub marked-shown : (after b : List ℕ) (x : Result Spilled Refusal) {f : FoundCell} {source : Source} → gathered_by x ≡ found_from f source
      → ((c : Spilled) → x ≡ Ok c → Got c after b)
      → marked_by i x ≡ InCell f.page.number i (fa.Marked (or_spilled (mark_over f (take f.cell.payload (drop 0 after)))))
  marked-shown after b (Err other) e got = never cc
  marked-shown after b (Ok c) {f} e got =
      let g = got c refl in
      let s = (found-parts e).0 in
      let n : values_at file c.cell.header - c.cell.header.length ≡ type_bytes file c.cell.header = omega arith in
      rw (← s, got-part c g, n, g.held.types)
