-- What is found in 18's place, from the code's answers to the definitions'.
use Prim.Native.Nat.{ℕ}
use mathlib.Core.Path.{◌≡◌, refl}
use mathlib.Core.List.{List}
use lib.ListN.{length, take, drop}
use lib.Seq.{take-append_seam}
use Rattle.laws.proofs.Never.{never}
use Rattle.answers.specs.declared.Refusal.{Refusal}
use Rattle.answers.specs.Answer.{◌>>=◌}
use Rattle.cell.specs.declared.Numbers.{Numbers}
use Rattle.place.specs.declared.Page.{Page}
use Rattle.cells.specs.Located.{Located}
use Rattle.chain.specs.Gathered.{Gathered, gathered_with, buffer_by, gather_answer}
use Rattle.chain.proofs.Laws.{given-numbers}
use Rattle.page.specs.declared.Open.{Open}
use Rattle.row.specs.declared.FoundCell.{FoundCell}
use Rattle.row.specs.Found.{found_by}
use Rattle.spills.specs.declared.Source.TheVariants.{Database}
use Rattle.spilled.specs.Lent.{Spilled, Lent, found_from, whole, gathered, recorded_in, instead, buffer_after, gathered_by, lent_by}
use Rattle.spilled.specs.Steps.{recorded_by, spilled_with}
use Rattle.std.specs.Prelude.{Err, Ok, Result}

-- WHAT IS SHOWN WITH NO BUFFER stays, and the buffer with it

module _ {f : FoundCell} where
  pub lent_found : (other : Result Lent Refusal) (x : Result Located Refusal) → found_by x ≡ Ok f
      → lent_by (instead whole other x) ≡ found_from f Database
  lent_found other (Err refusal) e = never cc
  lent_found other (Ok l) e = cc

  pub kept-found : (g : Result Gathered Refusal) (b : List ℕ) (x : Result Located Refusal) → found_by x ≡ Ok f → buffer_after x g b ≡ b
  kept-found g b (Err refusal) e = never cc
  kept-found g b (Ok l) e = refl

  pub same-found : (other : Result Located Refusal) (x : Result Located Refusal) → found_by x ≡ Ok f → found_by (instead (λ l. l) other x) ≡ Ok f
  same-found other (Err refusal) e = never cc
  same-found other (Ok l) e = e

-- A SPILLED CELL, as the code has it

pub lent-gathered : (x : Result Spilled Refusal) → lent_by (x >>= (λ c. Ok (gathered c))) ≡ gathered_by x
lent-gathered (Err refusal) = refl
lent-gathered (Ok c) = refl

module _ (page : Page) (i : ℕ) where
  pub gathered-refused : (x : Result Gathered Refusal) {refusal : Refusal} → gather_answer x ≡ Err refusal
      → gathered_by (x >>= recorded_in page i) ≡ Err refusal
  gathered-refused (Err other) e = cc
  gathered-refused (Ok g) e = never cc

  -- its record is read in the bytes that the buffer then begins with, by the numbers that it was gathered with
  pub gathered-recorded : (b : List ℕ) (x : Result Gathered Refusal) {n : Numbers} {size : ℕ}
      → gather_answer x ≡ Ok size → ((g : Gathered) → x ≡ Ok g → g.numbers ≡ n)
      → gathered_by (x >>= recorded_in page i) ≡ recorded_by page i n (take size (drop 0 (buffer_by x b)))
  gathered-recorded b (Err refusal) e own = never cc
  gathered-recorded b (Ok g) {n} {size} e own =
      let m : g.numbers ≡ n = own g refl in
      let l : length g.payload ≡ size = cc in
      rw (← m, ← l, take-append_seam g.payload)

-- of a cell with these numbers
pub numbered-recorded : (o : Open) (i : ℕ) (n : Numbers) (room : ℕ) (db b : List ℕ) {size : ℕ}
    → gather_answer (gathered_with o i n room db) ≡ Ok size
    → gathered_by (spilled_with o i n room db) ≡ recorded_by o.page i n (take size (drop 0 (buffer_by (gathered_with o i n room db) b)))
numbered-recorded o i n room db b e = gathered-recorded o.page i b (gathered_with o i n room db) e (λ g q. given-numbers o i n room db q)
