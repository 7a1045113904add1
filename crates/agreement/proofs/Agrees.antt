-- The theorem: what the guarded reading shows, and when it refuses.
use Prim.Native.Nat.{ℕ, ◌-◌}
use mathlib.Core.Path.{◌≡◌, refl, sym, ap, ◌∙◌}
use mathlib.Core.List.{List}
use lib.IntN.{ℤ}
use Rattle.laws.proofs.Never.{never}
use Rattle.answers.specs.declared.Refusal.{Refusal}
use Rattle.answers.specs.declared.Refusal.TheVariants.{InCell}
use Rattle.answers.specs.declared.Fault.TheVariants as fa
use Rattle.answers.specs.declared.Mark.{Mark}
use Rattle.record.specs.Types.{count}
use Rattle.place.specs.declared.Page.{Page}
use Rattle.place.specs.Place.{file_page}
use Rattle.cells.specs.Located as file
use Rattle.cells.specs.Located.{Located, row_number}
use Rattle.cells.proofs.Laws.{located-open, located-page}
use Rattle.guarded.specs.Guarded.{unmarked, located_of}
use Rattle.agreement.specs.Shows.{Meaning, none, row, old_shows, file_shows, guarded_shows}
use Rattle.agreement.specs.Agreement.{GuardedAgrees, GuardedRefuses, mark_by}
use Rattle.agreement.proofs.Cells.{old_located, old-shown}
use Rattle.agreement.proofs.Columns.{same-value}
use Rattle.guarded.proofs.Guard.{Opens, guarded_by, guarded, on-leaf}
use Rattle.agreement.proofs.Rows.{old_value, file_value, old_row, file_row, old-is, file-is, guarded-is, row-shown, listed_same}
use Rattle.std.specs.Prelude.{Err, None, Ok, Option, Result, Some}

-- a cell that the guarded reading locates has the same row in the other two
module _ (page i : ℕ) (db : List ℕ) {l : Located} (g : Opens page i db l) where
  old-row : old_shows (page - 1) i db ≡ file_row db (Ok l)
  old-row =
      let a = g.opened in
      let b = g.is in
      old-is (page - 1) i db ∙ ap (old_row db) (old-shown page i db a b.located b.leaf b.clear)
      ∙ ap (row (row_number l.cell.row.value))
      (listed_same (count l.cell.types) (old_value db (Ok (old_located page i db a b.located b.leaf))) (file_value db (Ok l))
      (same-value page i db a b.located b.leaf b.clear))

  file-row : file_shows page i db ≡ file_row db (Ok l)
  file-row = file-is page i db ∙ ap (file_row db) (located-open (file_page page) i db g.opened ∙ g.is.located)

pub guarded-agrees : GuardedAgrees
guarded-agrees page i db number values e =
    let located = located_of page i db in
    let r = row-shown located (file_value db located) (sym (guarded-is page i db) ∙ e) in
    let g = guarded page i db r.is in
    let f : file_row db (Ok r.l) ≡ row number values = ap (file_row db) (sym r.is) ∙ sym (guarded-is page i db) ∙ e in
    (old-row page i db g ∙ f, file-row page i db g ∙ f)

-- WHEN IT REFUSES, by the cell x that the file reading locates
module _ (page i : ℕ) (db : List ℕ) where
  as-file : (x : Result Located Refusal) {refusal : Refusal} → file_row db x ≡ none refusal → file_row db (guarded_by i x) ≡ none refusal
  as-file (Err refusal) e = e
  as-file (Ok l) e = never cc

  by-mark : (x : Result Located Refusal) {mark : Mark} → file.located_of (file_page page) i db ≡ x → mark_by x ≡ Some mark
      → file_row db (guarded_by i x) ≡ none (InCell page i (fa.Marked mark))
  by-mark (Err refusal) q e = never cc
  by-mark (Ok l) {mark} q e =
      ap (λ (m : Option Mark). file_row db (unmarked i l m)) e
      ∙ ap (λ (p : Page). none (InCell p.number i (fa.Marked mark))) (located-page (file_page page) i db q)

  let_through : (x : Result Located Refusal) {number : ℤ} {values : List Meaning} → file_row db x ≡ row number values → mark_by x ≡ None
      → file_row db (guarded_by i x) ≡ row number values
  let_through (Err refusal) e m = never cc
  let_through (Ok l) e m = ap (λ (m : Option Mark). file_row db (unmarked i l m)) m ∙ e

pub guarded-refuses : GuardedRefuses
guarded-refuses page i db s q k =
    let located = file.located_of (file_page page) i db in
    let is : guarded_shows page i db ≡ file_row db (guarded_by i located) = guarded-is page i db ∙ ap (file_row db) (on-leaf page i db q k) in (
      λ refusal e. is ∙ as-file page i db located (sym (file-is page i db) ∙ e),
      λ mark e. is ∙ by-mark page i db located refl e,
      λ number values e m. is ∙ let_through page i db located (sym (file-is page i db) ∙ e) m,
    )
