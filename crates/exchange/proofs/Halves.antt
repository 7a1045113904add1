-- One call of one truck: what it leaves of its own half, of the other half, of what is behind both, and of the table's length.
use Prim.Native.Nat.{ℕ, ◌*◌, ◌/◌}
use mathlib.Core.Path.{◌≡◌, sym, ap, ◌∙◌}
use mathlib.Core.List.{List}
use native.Mathlib.Omega.{arith}
use lib.ListN.{length, take}
use Rattle.halves.specs.declared.Share.{Share}
use Rattle.halves.specs.declared.Share.TheVariants.{Whole, First, Second}
use Rattle.halves.specs.Halves.{start_of, room_of, lent_of}
use Rattle.halves.proofs.Laws.{halves-apart, halves-end, lent_length, within-whole, within-length, within-lent, within-before, within-behind}
use Rattle.place.specs.declared.Page.{Page}
use Rattle.page.specs.Open.{open_of}
use Rattle.table.specs.declared.Entry.{Entry}
use Rattle.table.specs.Entry.{filled}
use Rattle.table.specs.Page.{page_of, written}
use Rattle.table.proofs.Laws.{cells-within}
use Rattle.lent.specs.Call.{answer_of, left_of}
use Rattle.lent.proofs.Filled.{filled-length}
use Rattle.exchange.specs.Behind.{behind_both}
use Rattle.answers.specs.declared.Refusal.{Refusal}
use Rattle.page.specs.declared.Open.{Open}
use Rattle.std.specs.Prelude.{Result}

module _ (page : Page) (db : List ℕ) (ys : List Entry) where
  abbrev opening : Result Open Refusal
  opening = open_of page db

  -- what a call that is lent a share makes of it
  abbrev fills : Share → List Entry → List Entry
  fills share = filled opening db (written (answer_of share page db (length ys)))

  -- it keeps the share's length
  kept : (share : Share) → length (fills share (lent_of share ys)) ≡ room_of share (length ys)
  kept share =
      let l = lent_length share ys in
      filled-length opening db (written (answer_of share page db (length ys))) (lent_of share ys) (omega (arith, l, cells-within opening (room_of share (length ys)) db))
      ∙ l

  pub left-length : (share : Share) → length (left_of share page db ys) ≡ length ys
  left-length share = within-length share (fills share) ys (kept share)

  -- its own share: as the page call that is lent it as a whole table
  pub left-own : (share : Share) → lent_of share (left_of share page db ys) ≡ left_of Whole page db (lent_of share ys)
  left-own share =
      within-lent share (fills share) ys (kept share)
      ∙ ap (λ (room : ℕ). filled opening db (written (page_of page room db)) (lent_of share ys)) (sym (lent_length share ys))
      ∙ sym (within-whole (filled opening db (written (page_of page (length (lent_of share ys)) db))) (lent_of share ys))

  -- the first half behind a call on the second, and the other way round
  pub first-kept : lent_of First (left_of Second page db ys) ≡ lent_of First ys
  first-kept =
      let before = within-before Second (fills Second) ys (kept Second) in
      rw (left-length Second) (before (room_of First (length ys)) (omega (arith, halves-apart (length ys))))

  pub second-kept : lent_of Second (left_of First page db ys) ≡ lent_of Second ys
  second-kept =
      let behind = within-behind First (fills First) ys (kept First) in
      rw (left-length First) (ap (take (room_of Second (length ys))) (behind (start_of Second (length ys)) (halves-apart (length ys))))

  -- what is behind both halves
  pub first-behind : behind_both (left_of First page db ys) ≡ behind_both ys
  first-behind =
      let behind = within-behind First (fills First) ys (kept First) in
      rw (left-length First) (behind (2 * (length ys / 2)) (omega (arith, halves-apart (length ys), halves-end (length ys))))

  pub second-behind : behind_both (left_of Second page db ys) ≡ behind_both ys
  second-behind =
      let behind = within-behind Second (fills Second) ys (kept Second) in
      rw (left-length Second) (behind (2 * (length ys / 2)) (halves-end (length ys)))
