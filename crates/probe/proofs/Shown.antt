-- What `probe` shows. The table that comes back has eight places, as the one that was lent; so a place below eight is in it, whatever
-- stands for a place that is not, and at eight and above there is none.
use mathlib.Core.Path.{◌≡◌, refl, sym, ap, subst}
use Prim.Native.Nat.{ℕ, zero, suc, ◌<◌, ◌≤◌}
use native.Mathlib.Nat.{not-suc-le-zero, le_of_suc-le-suc}
use mathlib.Core.List.{List, [], ◌∷◌}
use lib.ListN.{length, get_or, get_or-eq_default}
use Rattle.place.specs.declared.Page.{Page}
use Rattle.page.specs.Open.{open_of}
use Rattle.table.specs.declared.Entry.{Entry}
use Rattle.answers.specs.declared.Refusal.{Refusal}
use Rattle.table.specs.declared.Head.{Head}
use Rattle.table.specs.Entry.{none}
use Rattle.table.specs.Page.{page_of, written}
use Rattle.table.proofs.Laws.{cells-within}
use Rattle.lent.proofs.Filled.{filled-length}
use Rattle.probe.specs.declared.Probed.{Probed}
use Rattle.probe.specs.Probe.{blank, blanks, returned_of, probe_of}
use Rattle.std.specs.Prelude.{Result}

abbrev both : Result Head Refusal → Entry → Probed
both a e = record { answer = a; entry = e }

-- a place that is there does not read what stands for one that is not
place-any : (l : List Entry) (i : ℕ) (d e : Entry) → i < length l → get_or l i d ≡ get_or l i e
place-any [] i d e h = absurd (not-suc-le-zero h)
place-any (x ∷ l) zero d e h = refl
place-any (x ∷ l) (suc i) d e h = place-any l i d e (le_of_suc-le-suc h)

eight : (asked : Page) (db : List ℕ) → length (returned_of asked db blanks).table ≡ 8
unfolding returned_of
eight asked db = filled-length (open_of asked db) db (written (page_of asked 8 db)) blanks (cells-within (open_of asked db) 8 db)

module _ (i : ℕ) (asked : Page) (db : List ℕ) where
  -- the code reads a place by `none`, where it is not there
  pub shown_below : i < 8 → probe_of i asked db ≡ both (returned_of asked db blanks).answer (get_or (returned_of asked db blanks).table i none)
  unfolding probe_of
  shown_below l =
      ap (both (returned_of asked db blanks).answer)
      (place-any (returned_of asked db blanks).table i blank none (subst (λ (n : ℕ). i < n) (sym (eight asked db)) l))

  pub shown_above : 8 ≤ i → probe_of i asked db ≡ both (returned_of asked db blanks).answer blank
  unfolding probe_of
  shown_above l =
      ap (both (returned_of asked db blanks).answer)
      (get_or-eq_default (returned_of asked db blanks).table blank (subst (λ (n : ℕ). n ≤ i) (sym (eight asked db)) l))
