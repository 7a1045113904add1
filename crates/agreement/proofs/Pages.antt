-- A page that the file reading opens, the old reading opens too, counted from 0: the same bytes, with their end at the page's.
use Prim.Native.Nat.{ℕ, ◌-◌, ◌≤◌}
use mathlib.Core.Path.{◌≡◌, refl, sym, ap, subst, ◌∙◌}
use mathlib.Core.List.{List}
use native.Mathlib.Omega.{arith}
use lib.ListN.{length}
use Rattle.reading.specs.declared.Reading.TheVariants.{Old as old, File as file}
use Rattle.header.specs.Header.{page_size_of}
use Rattle.header.proofs.Laws.{old-passed}
use Rattle.place.specs.declared.Page.{Page}
use Rattle.shape.specs.declared.Shape.{Shape}
use Rattle.place.specs.Place.{old_page, file_page, page_at}
use Rattle.place.proofs.Laws.{old-place}
use Rattle.shape.proofs.Laws.{shape_in, shape-passed, shape-shown}
use Rattle.site.specs.declared.Site.{Site}
use Rattle.page.specs.declared.Open.{Open}
use Rattle.site.specs.Kinds.{kind_at}
use Rattle.site.specs.Site.{site_of}
use Rattle.page.specs.Open.{open_from, open_of}
use Rattle.site.proofs.Sites.{sited, site-again, site-end}
use Rattle.page.proofs.Steps.{opening, open-again, open-site, steps}
use Rattle.std.specs.Prelude.{Ok, Some}

-- as the old reading has it: its cells may go on to the page's end
abbrev site_as_old : ℕ → Site → Site
site_as_old n s = record { page = old_page (n - 1); at = s.at; size = s.size; end = s.size; from = s.from; kind = s.kind }

abbrev pub as_old : ℕ → Open → Open
as_old n o =
    record { page = old_page (n - 1); at = o.at; size = o.size; end = o.size; from = o.from; kind = o.kind; cells = o.cells }

old-site : (n : ℕ) (db : List ℕ) {s : Site} → site_of (file_page n) db ≡ Ok s → site_of (old_page (n - 1)) db ≡ Ok (site_as_old n s)
old-site n db {s} e =
    let is = sited (file_page n) db e in
    let q = shape-shown file db is.shaped in
    let size : is.shape.page_size ≡ page_size_of db = ap (λ (x : Shape). x.page_size) q.1 in
    site-again (old_page (n - 1)) db (record {
      shape = shape_in old db;
      shaped = shape-passed old db (old-passed db q.0);
      named = refl;
      sized = is.sized ∙ size;
      ended = is.sized ∙ size;
      placed = old-place n (length db) is.shape (shape_in old db) size is.placed;
      header = subst (λ (z : ℕ). s.from ≤ z) size is.header;
      kinded = subst (λ (z : ℕ). kind_at s.from (page_at s.at z db) ≡ Some s.kind) size is.kinded;
    })

pub old-opens : (n : ℕ) (db : List ℕ) {o : Open} → open_of (file_page n) db ≡ Ok o → open_of (old_page (n - 1)) db ≡ Ok (as_old n o)
old-opens n db {o} e =
    let t = steps (file_page n) db e in
    let s = t.site in
    let f = opening s db t.second in
    let short = site-end (file_page n) db (sited (file_page n) db t.first) in
    open-site (old_page (n - 1)) db (old-site n db t.first)
    ∙ open-again (site_as_old n s) db (omega (arith, f.pointers, short))
    ∙ ap (λ (x : Open). Ok (as_old n x)) (sym f.is)

-- the kind is found in the first step
pub open-kind : (page : Page) (db : List ℕ) {s : Site} {o : Open} → site_of page db ≡ Ok s → open_of page db ≡ Ok o → o.kind ≡ s.kind
open-kind page db {s} {o} q e =
    let second : open_from s db ≡ Ok o = sym (open-site page db q) ∙ e in ap (λ (x : Open). x.kind) (opening s db second).is
