-- A cell with a buffer lent, by its numbers: whether its payload spills is known from them, and so is its refusal with 18.
use Prim.Native.Nat.{ℕ}
use mathlib.Core.Path.{◌≡◌, refl, sym, ap, ◌∙◌}
use mathlib.Core.List.{List}
use mathlib.Core.Bool.{Bool, true, false}
use lib.ListN.{length}
use borrow.Author.Tests.{lt-ltb, ltb-true}
use Rattle.laws.specs.Pick.{pick}
use Rattle.laws.proofs.Never.{never}
use Rattle.reading.specs.declared.Reading.{Reading}
use Rattle.reading.specs.declared.Reading.TheVariants.{Old as old, File as file}
use Rattle.answers.specs.declared.Fault.{Fault}
use Rattle.answers.specs.declared.Fault.TheVariants as fa
use Rattle.answers.specs.declared.Refusal.{Refusal}
use Rattle.answers.specs.declared.Refusal.TheVariants.{OfDatabase, OnPage, InCell}
use Rattle.kinds.specs.Kind.{has_size, most_whole}
use Rattle.cell.specs.declared.Numbers.{Numbers}
use Rattle.cell.proofs.Spills.{Over}
use Rattle.page.specs.declared.Open.{Open}
use Rattle.cells.specs.Located.{Located, located_in}
use Rattle.cells.specs.Numbered.{numbers_in}
use Rattle.cells.proofs.Numbered.{numbers-refused, spills-located, located-spills}
use Rattle.chain.specs.Gathered.{gathered_with, buffer_by}
use Rattle.chain.proofs.Laws.{gathered-numbered}
use Rattle.spilled.specs.Lent.{spilled_in, lent_in, buffer_in, gathered_by, lent_by}
use Rattle.spills.specs.Spills.{spills_as, spills}
use Rattle.spilled.specs.Steps.{on_page, spilled_with}
use Rattle.spills.specs.Over.{over_in, over}
use Rattle.spilled.proofs.Laws.{lent-gathered}
use Rattle.std.specs.Prelude.{Err, Ok, Result}

-- WHETHER IT SPILLS

over-in : (r : Reading) (x p : ℕ) → over_in r x p ≡ true → Over r x p
over-in old x p e = never cc
over-in file x p e = (refl, ltb-true x p e)

in-over : (r : Reading) (x p : ℕ) → Over r x p → over_in r x p ≡ true
in-over old x p o = never cc
in-over file x p o = lt-ltb x p o.1

over-said : (o : Open) (p : ℕ) → over o p ≡ true → (has_size o.kind ≡ true) × Over o.page.reading (most_whole o.kind o.end) p
over-said o p e = go (has_size o.kind) refl e
  where
    go : (b : Bool) → has_size o.kind ≡ b → pick b (over_in o.page.reading (most_whole o.kind o.end) p) false ≡ true
        → (has_size o.kind ≡ true) × Over o.page.reading (most_whole o.kind o.end) p
    go true h d = (h, over-in o.page.reading (most_whole o.kind o.end) p d)
    go false h d = never cc

-- no other refusal is for a payload that spills
not-spilling : {x : Result Located Refusal} → ((number cell : ℕ) → x ≡ Err (InCell number cell fa.PayloadSpills) → ⊥)
    → (refusal : Refusal) → x ≡ Err refusal → spills refusal ≡ false
not-spilling none (OfDatabase flaw) e = refl
not-spilling none (OnPage page reason) e = refl
not-spilling {x} none (InCell page cell fault) e = by fault e
  where
    by : (f : Fault) → x ≡ Err (InCell page cell f) → spills_as f ≡ false
    by fa.PointerOutside d = refl
    by fa.CellCut d = refl
    by fa.PayloadSpills d = absurd (none page cell d)
    by fa.BufferTooShort d = refl
    by fa.ChainUnfit d = refl
    by fa.HeaderUnfit d = refl
    by (fa.TypeReserved column) d = refl
    by (fa.ValueUnfit column) d = refl
    by fa.ClosingCut d = refl
    by (fa.Marked mark) d = refl
    by fa.OutOfOrder d = refl

module _ (o : Open) (i room : ℕ) (db b : List ℕ) where
  -- ON ITS PAGE

  -- where there is no 18
  kept : ((number cell : ℕ) → located_in o i db ≡ Err (InCell number cell fa.PayloadSpills) → ⊥)
      → (lent_by (lent_in o i room db) ≡ on_page (located_in o i db)) × (buffer_in o i db b ≡ b)
  unfolding lent_in buffer_in
  kept none = go (located_in o i db) refl
    where
      go : (x : Result Located Refusal) → located_in o i db ≡ x → (lent_by (lent_in o i room db) ≡ on_page x) × (buffer_in o i db b ≡ b)
      go (Ok l) e = rw e (refl, refl)
      go (Err refusal) e = rw (e, not-spilling none refusal e) (refl, refl)

  -- a cell whose numbers are refused
  pub lent-unnumbered : {refusal : Refusal} → numbers_in o i db ≡ Err refusal
      → (lent_by (lent_in o i room db) ≡ on_page (Err refusal)) × (buffer_in o i db b ≡ b)
  lent-unnumbered {refusal} e =
      let k = kept (λ number cell d. let s = located-spills o i db d in let f = sym e ∙ s.read in never cc) in
      (k.0 ∙ ap on_page (numbers-refused o i db e), k.1)

  module _ {n : Numbers} (e : numbers_in o i db ≡ Ok n) where
    -- or say that its payload lies on the page
    pub lent-fitting : over o n.size.value ≡ false → (lent_by (lent_in o i room db) ≡ on_page (located_in o i db)) × (buffer_in o i db b ≡ b)
    lent-fitting t = kept (λ number cell d. let f = sym t ∙ spills-over d in never cc)
      where
        spills-over : {number cell : ℕ} → located_in o i db ≡ Err (InCell number cell fa.PayloadSpills) → over o n.size.value ≡ true
        spills-over d =
            let s = located-spills o i db d in
            let f = sym s.read ∙ e in
            let m : s.numbers ≡ n = cc in
            rw (← m, s.sized) (in-over o.page.reading (most_whole o.kind o.end) s.numbers.size.value s.over)

    -- IN THE BUFFER

    pub lent-over : over o n.size.value ≡ true
        → (lent_by (lent_in o i room db) ≡ gathered_by (spilled_with o i n room db)) × (buffer_in o i db b ≡ buffer_by (gathered_with o i n (length b) db) b)
    unfolding lent_in buffer_in spilled_in
    lent-over t =
        let h = over-said o n.size.value t in
        let l = spills-located o i db (record { numbers = n; read = e; sized = h.0; over = h.1 }) in
        let g = gathered-numbered o i room db e in
        let w = gathered-numbered o i (length b) db e in
        rw (l, g, w) (lent-gathered (spilled_with o i n room db), refl)
