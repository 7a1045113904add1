-- The theorem's other side: under the marks but the second, the old reading never shows what the file reading shows.
use Prim.Native.Nat.{ℕ, ◌-◌}
use mathlib.Core.Path.{◌≡◌, sym, ap, ◌∙◌}
use mathlib.Core.List.{List}
use mathlib.Core.Bool.{true}
use native.Mathlib.Omega.{arith}
use lib.ListN.{drop}
use Rattle.answers.specs.declared.Refusal.{Refusal}
use Rattle.record.specs.Types.{count}
use Rattle.kinds.specs.declared.Kind.TheVariants.{LeafTable}
use Rattle.marks.proofs.Differ.{Apart, fewer, other, apart}
use Rattle.place.specs.Place.{old_page, file_page}
use Rattle.page.specs.declared.Open.{Open}
use Rattle.page.specs.Open.{open_of}
use Rattle.cells.specs.Located.{Located, located_in, located_of}
use Rattle.cells.proofs.Laws.{steps}
use Rattle.row.proofs.Placed.{Placed, placed-in, placed}
use Rattle.agreement.specs.Shows.{listed}
use Rattle.agreement.specs.Agreement.{differing, differing_by, MarksDiffer}
use Rattle.agreement.proofs.Values.{value-differs}
use Rattle.agreement.proofs.Pages.{open-kind}
use Rattle.agreement.proofs.Cells.{part, more, file-cell, old-cell}
use Rattle.agreement.proofs.Columns.{stands}
use Rattle.agreement.proofs.Rows.{old_in, file_in, old_value, file_value, old-is, file-is, row-shown, same_count, same-each}
use Rattle.columns.specs.Columns.{slot_at}
use Rattle.std.specs.Prelude.{Ok, Result}

module _ (n i : ℕ) (db : List ℕ) {o : Open} {l l' : Located} (opened : open_of (file_page n) db ≡ Ok o)
    (located : located_in o i db ≡ Ok l) (leaf : o.kind ≡ LeafTable) (there : located_of (old_page (n - 1)) i db ≡ Ok l')
    (m : differing l.cell ≡ true) where
  file-placed : Placed l db
  file-placed = placed-in o i db located

  old-placed : Placed l' db
  old-placed = placed (old_page (n - 1)) i db there

  types-apart : Apart l'.cell.types l.cell.types
  types-apart =
      apart o.end o.size (part n i db opened located leaf) (more n i db opened located leaf) (file-cell n i db opened located leaf) m
      (old-cell n i db opened located leaf there)

  lists-differ : listed (count l'.cell.types) (old_value db (Ok l')) ≡ listed (count l.cell.types) (file_value db (Ok l)) → ⊥
  lists-differ e = go types-apart
    where
      go : Apart l'.cell.types l.cell.types → ⊥
      go (fewer c) = let same = same_count (count l'.cell.types) (count l.cell.types) _ _ e in omega (arith, same)
      go (other k t a b f g w) =
          let x = stands old-placed k a in
          let y = stands file-placed k b in
          let same = same-each (count l'.cell.types) (count l.cell.types) _ _ e k a b in
          value-differs db (drop x.at db) (drop y.at db) x.at y.at t w
          (sym (ap (old_in db l'.opened.page) (x.is ∙ ap (λ (z : ℕ). slot_at z x.at) f))
          ∙ same
          ∙ ap (file_in db l.opened.page) (y.is ∙ ap (λ (z : ℕ). slot_at z y.at) g))

pub marks-differ : MarksDiffer
marks-differ page i db s q k m a b os fs e f d =
    let x = located_of (old_page (page - 1)) i db in
    let y = located_of (file_page page) i db in
    let r = row-shown x (old_value db x) (sym (old-is (page - 1) i db) ∙ e) in
    let t = row-shown y (file_value db y) (sym (file-is page i db) ∙ f) in
    let c = steps (file_page page) i db t.is in
    let leaf : c.o.kind ≡ LeafTable = open-kind (file_page page) db q c.first ∙ k in
    lists-differ page i db c.first c.second leaf r.is (sym (ap differing_by t.is) ∙ m)
    (ap (λ (z : Result Located Refusal). listed (count r.l.cell.types) (old_value db z)) (sym r.is)
    ∙ r.values-are ∙ d ∙ sym t.values-are
    ∙ ap (λ (z : Result Located Refusal). listed (count t.l.cell.types) (file_value db z)) t.is)
