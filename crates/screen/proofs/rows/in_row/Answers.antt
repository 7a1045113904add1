-- The value of each address, as long as they name the row: the cursor stands before the column, and the list goes on.
use Prim.Native.Nat.{ℕ, ◌+◌, ◌*◌, ◌≤◌}
use mathlib.Core.Path.{◌≡◌, refl, sym, ap, ◌∙◌}
use mathlib.Core.List.{List}
use native.Mathlib.Omega.{arith}
use lib.IntN.{ℤ}
use lib.ListN.{length}
use lib.Seq.{sets}
use Rattle.reading.specs.declared.Reading.{Reading}
use Rattle.answers.specs.declared.Reason.TheVariants.{NoSuchColumn}
use Rattle.answers.specs.declared.Refusal.TheVariants.{OnPage}
use Rattle.columns.specs.declared.Cursor.{Cursor}
use Rattle.columns.specs.Columns.{slot_of}
use Rattle.checked.specs.Whole.{Whole}
use Rattle.checked.specs.Past.{past_of}
use Rattle.turns.specs.declared.types.Shown.{Shown}
use Rattle.turns.specs.Words.{shown_words}
use Rattle.chosen.specs.Chosen.{slot_shown, refused_shown}
use Rattle.addresses.specs.Turns.{Turn, named_page, named_column}
use Rattle.addresses.proofs.Lists.{Going, Same, going-first, going-stored, going_on, same-cell, same_address, same_first}
use Rattle.screen.proofs.Columns.{Before, before-first, past-before, coming, type-ends, value-ends, before-next, column-here, none-behind, shown-found}
use Rattle.screen.proofs.rows.in_row.Invariants.{Columns}
use Rattle.screen.proofs.rows.in_row.Goals as goal
use Rattle.screen.proofs.rows.in_row.Goals.{then-k-column, else-k-column, then-k-columns, else-k-columns}

-- THE CURSOR comes to the column that is asked for

module _ {first : Cursor} {columns : ℕ} {db : List ℕ} {k : ℕ} {there : Cursor} where
  -- from the first
  come : Whole first columns db → there ≡ past_of k first db → k ≤ columns → Before first columns db there k
  come w e l = rw e (past-before w k l)

  -- or it is there
  stay : {here : Cursor} {n : ℕ} → Before first columns db here n → there ≡ here → k ≡ n → Before first columns db there k
  stay b e f = rw (e, f) b

-- ONE ANSWER MORE

stored : (db : List ℕ) (reading : Reading) (first : Cursor) (at : ℕ) (addresses : List ℕ) {count i : ℕ} {lent answers : List ℤ}
    → Going (Columns db reading first at addresses) count addresses at i lent answers → Same addresses count i at → 3 * count ≤ length addresses
    → {k : ℕ} → k ≡ named_column i addresses → {shown : Shown} → shown ≡ slot_shown reading (named_page at addresses) db (slot_of k first db)
    → {after : List ℤ} → after ≡ sets answers (8 * i) (shown_words shown) → Turn (Columns db reading first at addresses) count addresses at (i + 1) lent after
stored db reading first at addresses going same room column is s =
    going-stored going room s
    (λ f must. is ∙ ap (λ (k : ℕ). slot_shown reading (named_page at addresses) db (slot_of k first db)) column ∙ sym (ap f (same_address same) ∙ must _))

pub loop-column-init : goal.loop-column-init
loop-column-init c =
    (going-first c.requires.there, same_first _ _ _ c.requires.there, before-first c.requires.whole, c.requires.room)

pub type_at-serial-requires : goal.type_at-serial-requires
type_at-serial-requires c =
    let a = c.args in
    let b : Before a.first a.columns a.db.now c.if-k-column.here c.column_at-k.result =
    elim c.if-k-column.branch [
      | then-k-column w ↦ come c.requires.whole (w.here-is ∙ w.past-here.ensures) (omega arith)
      | else-k-column w ↦ stay c.loop-column.invariant.2 w.here-is w.if-k-column.false
    ] in
    coming b c.if-k-columns.true

pub moved-here-requires : goal.moved-here-requires
moved-here-requires c =
    let a = c.args in
    let b : Before a.first a.columns a.db.now c.if-k-column.here c.column_at-k.result =
    elim c.if-k-column.branch [
      | then-k-column w ↦ come c.requires.whole (w.here-is ∙ w.past-here.ensures) (omega arith)
      | else-k-column w ↦ stay c.loop-column.invariant.2 w.here-is w.if-k-column.false
    ] in
    let e = c.type_at-serial.ensures in
    record {
      type_ends = omega (arith, type-ends b c.if-k-columns.true e, b.left.header);
      value_ends = omega (arith, value-ends b c.if-k-columns.true e, b.left.within);
    }

pub returns-then-not-names_same : goal.returns-then-not-names_same
returns-then-not-names_same c =
    let a = c.args in
    let i = c.loop-column.invariant in
    let page = named_page a.at a.addresses.now in
    elim c.if-k-columns.branch [
      | then-k-columns w ↦
          let b : Before a.first a.columns a.db.now w.if-k-column.here c.column_at-k.result =
          elim w.if-k-column.branch [
            | then-k-column v ↦ come c.requires.whole (v.here-is ∙ v.past-here.ensures) (omega (arith, w.if-k-columns.true))
            | else-k-column v ↦ stay i.2 v.here-is v.if-k-column.false
          ] in
          let v = w.value_shown-shown.ensures in
          stored a.db.now a.reading a.first a.at a.addresses.now i.0 i.1 i.3.0 c.column_at-k.ensures
          (shown-found a.reading page a.db.now (column-here b w.if-k-columns.true w.type_at-serial.ensures) v.refused v.value) (w.answers-is ∙ w.put.ensures)
      | else-k-columns w ↦
          let none = none-behind c.requires.whole c.column_at-k.result w.if-k-columns.false in
          stored a.db.now a.reading a.first a.at a.addresses.now i.0 i.1 i.3.0 c.column_at-k.ensures
          (w.refused_shown.ensures ∙ ap (λ (n : ℕ). refused_shown (OnPage n NoSuchColumn)) w.page_at-page.ensures ∙ ap (slot_shown a.reading page a.db.now) (sym none))
          (w.answers-is ∙ w.put-else-k-columns.ensures)
    ]

pub loop-column-preserved : goal.loop-column-preserved
loop-column-preserved c =
    let a = c.args in
    let l = c.loop-column in
    let i = l.invariant in
    let page = named_page a.at a.addresses.now in
    let same = same-cell a.addresses.now a.count (l.i + 1) a.at (sym c.names_same.ensures ∙ c.if-not-names_same.false) in
    elim c.if-k-columns.branch [
      | then-k-columns w ↦
          let b : Before a.first a.columns a.db.now w.if-k-column.here c.column_at-k.result =
          elim w.if-k-column.branch [
            | then-k-column v ↦ come c.requires.whole (v.here-is ∙ v.past-here.ensures) (omega (arith, w.if-k-columns.true))
            | else-k-column v ↦ stay i.2 v.here-is v.if-k-column.false
          ] in
          let v = w.value_shown-shown.ensures in
          let e = w.type_at-serial.ensures in
          let s = stored a.db.now a.reading a.first a.at a.addresses.now i.0 i.1 i.3.0 c.column_at-k.ensures
          (shown-found a.reading page a.db.now (column-here b w.if-k-columns.true e) v.refused v.value) (w.answers-is ∙ w.put.ensures) in
          (going_on s same.there, same, stay (before-next b w.if-k-columns.true e (w.here-is ∙ w.moved-here.ensures)) refl w.column-is, i.3)
      | else-k-columns w ↦
          let none = none-behind c.requires.whole c.column_at-k.result w.if-k-columns.false in
          let s = stored a.db.now a.reading a.first a.at a.addresses.now i.0 i.1 i.3.0 c.column_at-k.ensures
          (w.refused_shown.ensures ∙ ap (λ (n : ℕ). refused_shown (OnPage n NoSuchColumn)) w.page_at-page.ensures ∙ ap (slot_shown a.reading page a.db.now) (sym none))
          (w.answers-is ∙ w.put-else-k-columns.ensures) in
          (going_on s same.there, same, stay i.2 w.here-is w.column-is, i.3)
    ]
