-- What is answered and stored, from the code's answers to the definitions'.
use Prim.Native.Nat.{ℕ}
use mathlib.Core.Path.{◌≡◌, refl}
use mathlib.Core.List.{List}
use lib.IntN.{ℤ}
use lib.ListN.{length, take, drop}
use Rattle.laws.proofs.Never.{never}
use Rattle.answers.specs.declared.Refusal.{Refusal}
use Rattle.answers.specs.Answer.{◌>>=◌}
use Rattle.page.specs.declared.Open.{Open}
use Rattle.cells.specs.Located.{Located}
use Rattle.row.specs.declared.FoundCell.{FoundCell}
use Rattle.row.specs.Found.{found_by}
use Rattle.spills.specs.declared.Source.TheVariants.{Database, Buffer}
use Rattle.spilled.specs.Lent as file
use Rattle.spilled.specs.Lent.{Lent, whole, gathered, found_over, found_on, lent_by}
use Rattle.spilled.proofs.Got.{lent-got}
use Rattle.spilled.proofs.Parts.{found-parts}
use Rattle.spilled.proofs.Values.{got-part}
use Rattle.turns.specs.Rows.{no_row}
use Rattle.sources.specs.Lent.{lent_row}
use Rattle.gathered.specs.Rows.{row_from, table_from, row_lent, table_lent}
use Rattle.spilled.specs.Lent.{found_from}
use Rattle.std.specs.Prelude.{Err, Ok, Result}

module _ (places : ℕ) (db : List ℕ) (table : List ℤ) where
  -- THE GUARDED READING

  pub marked_refused : (x : Result Located Refusal) {refusal : Refusal} → found_by x ≡ Err refusal
      → (row_lent places db (x >>= (λ l. Ok (whole l))) ≡ lent_row (no_row refusal) Database)
      × (table_lent places db (x >>= (λ l. Ok (whole l))) table ≡ table)
  marked_refused (Err other) {refusal} e = let q : other ≡ refusal = cc in (rw q, refl)
  marked_refused (Ok l) e = never cc

  pub marked-shown : (x : Result Located Refusal) {f : FoundCell} → found_by x ≡ Ok f
      → (row_lent places db (x >>= (λ l. Ok (whole l))) ≡ row_from places db f Database)
      × (table_lent places db (x >>= (λ l. Ok (whole l))) table ≡ table_from places db f table)
  marked-shown (Err other) e = never cc
  marked-shown (Ok l) {f} e = let s : found_on l ≡ f = cc in (rw (← s), rw (← s))

  -- THE FILE READING, or that of the page

  pub lent-refused : (x : Result Lent Refusal) {refusal : Refusal} → lent_by x ≡ Err refusal
      → (row_lent places db x ≡ lent_row (no_row refusal) Database) × (table_lent places db x table ≡ table)
  lent-refused (Err other) {refusal} e = let q : other ≡ refusal = cc in (rw q, refl)
  lent-refused (Ok (whole l)) e = never cc
  lent-refused (Ok (gathered c)) e = never cc

  pub lent-whole : (x : Result Lent Refusal) {f : FoundCell} → lent_by x ≡ found_from f Database
      → (row_lent places db x ≡ row_from places db f Database) × (table_lent places db x table ≡ table_from places db f table)
  lent-whole (Err other) e = never cc
  lent-whole (Ok (whole l)) {f} e = let s : found_on l ≡ f = (found-parts e).0 in (rw (← s), rw (← s))
  lent-whole (Ok (gathered c)) e = let s = (found-parts e).1 in never cc

-- the buffer begins with the payload
module _ (places : ℕ) (db : List ℕ) (table : List ℤ) (o : Open) (i : ℕ) (b : List ℕ) where
  pub lent-gathered : (x : Result Lent Refusal) → file.lent_in o i (length b) db ≡ x → {f : FoundCell} → lent_by x ≡ found_from f Buffer
      → (row_lent places db x ≡ row_from places (take f.cell.payload (drop 0 (file.buffer_in o i db b))) f Buffer)
      × (table_lent places db x table ≡ table_from places (take f.cell.payload (drop 0 (file.buffer_in o i db b))) f table)
  lent-gathered (Err other) q e = never cc
  lent-gathered (Ok (whole l)) q e = let s = (found-parts e).1 in never cc
  lent-gathered (Ok (gathered c)) q {f} e =
      let g = lent-got o i db b q in
      let s = (found-parts e).0 in
      (rw (← s, got-part c g), rw (← s, got-part c g))
