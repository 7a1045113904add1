-- A cell that is shown, taken apart once, and put together again: one with a payload, and one that ends behind its numbers.
use Prim.Native.Nat.{ℕ, ◌-◌}
use mathlib.Core.Path.{◌≡◌, refl, ap, subst, ◌∙◌}
use mathlib.Core.List.{List}
use mathlib.Core.Bool.{Bool, true, false}
use lib.ListN.{length, take, drop}
use Rattle.laws.specs.Pick.{pick}
use Rattle.laws.proofs.Never.{never}
use Rattle.varint.specs.declared.Number.{Number}
use Rattle.reading.specs.declared.Reading.{Reading}
use Rattle.answers.specs.declared.Fault.{Fault}
use Rattle.answers.specs.declared.Fault.TheVariants as fa
use Rattle.answers.specs.Answer.{◌>>=◌}
use Rattle.record.specs.Record.{Record, found, record_of}
use Rattle.kinds.specs.declared.Kind.{Kind}
use Rattle.kinds.specs.Kind.{has_size, has_closing, most_whole}
use Rattle.cell.specs.declared.Numbers.{Numbers}
use Rattle.cell.specs.Numbers.{number_in, numbers_of}
use Rattle.cell.specs.Cell.{Cell, payload_in, behind, bare, cell_of}
use Rattle.std.specs.Prelude.{Err, Ok, Result}
use Rattle.varint.specs.declared.Cause.{Cause}

-- the record of a cell, of which `left` bytes stand behind the values
abbrev pub record_with : Cell → ℕ → Record
record_with c left = record { header = c.header; types = c.types; left = left }

-- the cell c, behind its numbers at the bytes s
pub record Recorded (r : Reading) (k : Kind) (u : ℕ) (s : List ℕ) (c : Cell) : Type 0 where
  pub payload : payload_in r (most_whole k u) c.numbers.size.value s ≡ Ok c.payload
  pub left : ℕ
  pub recorded : record_of r (take c.payload s) ≡ Ok (record_with c left)
  pub row : number_in (has_closing r k) 5 c.numbers.key (drop (length (take c.payload s) - left) (take c.payload s)) ≡ Ok c.row

module _ (r : Reading) (k : Kind) (u : ℕ) (n : Numbers) (s : List ℕ) where
  abbrev made : ℕ → Record → Number → Cell
  made p x row = record { numbers = n; payload = p; header = x.header; types = x.types; row = row }

  abbrev row_in : ℕ → Record → Result Number Cause
  row_in p x = number_in (has_closing r k) 5 n.key (drop (length (take p s) - x.left) (take p s))

  -- its numbers are those it was read behind
  behind-recorded : {c : Cell} → behind r k u n s ≡ Ok c → (n ≡ c.numbers) × Recorded r k u s c
  unfolding behind
  behind-recorded {c} e = by-payload (payload_in r (most_whole k u) n.size.value s) refl e
    where
      by_row : (p : ℕ) → payload_in r (most_whole k u) n.size.value s ≡ Ok p → (x : Record) → record_of r (take p s) ≡ Ok x
          → (v : Result Number Cause) → row_in p x ≡ v → (found fa.ClosingCut v >>= (λ row. Ok (made p x row))) ≡ Ok c → (n ≡ c.numbers) × Recorded r k u s c
      by_row p i x j (Err cause) l d = never cc
      by_row p i x j (Ok row) l d =
          let m : made p x row ≡ c = cc in
          rw (← m) (refl, record { payload = i; left = x.left; recorded = j; row = l })

      by-record : (p : ℕ) → payload_in r (most_whole k u) n.size.value s ≡ Ok p → (x : Result Record Fault) → record_of r (take p s) ≡ x
          → (x >>= (λ y. found fa.ClosingCut (row_in p y) >>= (λ row. Ok (made p y row)))) ≡ Ok c → (n ≡ c.numbers) × Recorded r k u s c
      by-record p i (Err fault) j d = never cc
      by-record p i (Ok x) j d = by_row p i x j (row_in p x) refl d

      by-payload : (x : Result ℕ Fault) → payload_in r (most_whole k u) n.size.value s ≡ x
          → (x >>= (λ p. record_of r (take p s) >>= (λ y. found fa.ClosingCut (row_in p y) >>= (λ row. Ok (made p y row))))) ≡ Ok c → (n ≡ c.numbers) × Recorded r k u s c
      by-payload (Err fault) i d = never cc
      by-payload (Ok p) i d = by-record p i (record_of r (take p s)) refl d

module _ (r : Reading) (k : Kind) (u : ℕ) (s : List ℕ) where
  -- what the cell comes to behind its numbers
  abbrev follows : Bool → Numbers → Result Cell Fault
  follows has n = pick has (behind r k u n (drop n.length s)) (Ok (bare n))

  pub recorded : {c : Cell} → has_size k ≡ true → cell_of r k u s ≡ Ok c
      → (numbers_of r k s ≡ Ok c.numbers) × Recorded r k u (drop c.numbers.length s) c
  unfolding cell_of
  recorded {c} h e = go (numbers_of r k s) refl (rw h at e)
    where
      go : (x : Result Numbers Fault) → numbers_of r k s ≡ x → (x >>= follows true) ≡ Ok c
          → (numbers_of r k s ≡ Ok c.numbers) × Recorded r k u (drop c.numbers.length s) c
      go (Err fault) i d = never cc
      go (Ok n) i d =
          let b = behind-recorded r k u n (drop n.length s) d in
          let l : n.length ≡ c.numbers.length = ap (λ (m : Numbers). m.length) b.0 in
          (i ∙ ap Ok b.0, subst (λ (m : ℕ). Recorded r k u (drop m s) c) l b.1)

  pub recorded-again : {c : Cell} → has_size k ≡ true → numbers_of r k s ≡ Ok c.numbers → Recorded r k u (drop c.numbers.length s) c
      → cell_of r k u s ≡ Ok c
  unfolding cell_of behind
  recorded-again h i b = rw (i, h, b.payload, b.recorded, b.row)

  pub ended : {c : Cell} → has_size k ≡ false → cell_of r k u s ≡ Ok c → (numbers_of r k s ≡ Ok c.numbers) × (bare c.numbers ≡ c)
  unfolding cell_of
  ended {c} h e = go (numbers_of r k s) refl (rw h at e)
    where
      go : (x : Result Numbers Fault) → numbers_of r k s ≡ x → (x >>= follows false) ≡ Ok c → (numbers_of r k s ≡ Ok c.numbers) × (bare c.numbers ≡ c)
      go (Err fault) i d = never cc
      go (Ok n) i d = let m : bare n ≡ c = cc in rw (← m) (i, refl)
