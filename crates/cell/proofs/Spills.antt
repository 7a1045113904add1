-- A cell is refused with 18 exactly where its numbers say so: of the file reading, with a payload that is over what may lie whole
-- on its page.
use Prim.Native.Nat.{ℕ, ◌-◌, ◌<◌}
use mathlib.Core.Path.{◌≡◌, refl}
use mathlib.Core.List.{List}
use mathlib.Core.Bool.{Bool, true, false}
use lib.Dec.{ltb}
use lib.ListN.{length, take, drop}
use borrow.Author.Tests.{lt-ltb, ltb-true}
use Rattle.laws.specs.Pick.{pick}
use Rattle.laws.proofs.Never.{never}
use Rattle.varint.specs.declared.Number.{Number}
use Rattle.reading.specs.declared.Reading.{Reading}
use Rattle.reading.specs.declared.Reading.TheVariants.{Old as old, File as file}
use Rattle.answers.specs.declared.Fault.{Fault}
use Rattle.answers.specs.declared.Fault.TheVariants as fa
use Rattle.answers.specs.Answer.{◌>>=◌}
use Rattle.record.specs.Record.{Record, found, record_of}
use Rattle.record.proofs.Faults.{not-spilled}
use Rattle.kinds.specs.declared.Kind.{Kind}
use Rattle.kinds.specs.Kind.{has_size, has_closing, most_whole}
use Rattle.cell.specs.declared.Numbers.{Numbers}
use Rattle.cell.specs.Numbers.{number_in, numbers_of}
use Rattle.cell.specs.Cell.{Cell, payload_in, behind, bare, cell_of}
use Rattle.cell.proofs.Laws.{Told, cut, read, numbers-told}
use Rattle.std.specs.Prelude.{Err, Ok, Result}
use Rattle.varint.specs.declared.Cause.{Cause}

-- a payload of size p that is over x
abbrev pub Over : Reading → ℕ → ℕ → Type 0
Over r x p = (r ≡ file) × (x < p)

payload-over : (r : Reading) (x p : ℕ) (s : List ℕ) → payload_in r x p s ≡ Err fa.PayloadSpills → Over r x p
payload-over old x p s e = never cc
payload-over file x p s e = go (ltb x p) refl (ltb (length s) p) e
  where
    go : (a : Bool) → ltb x p ≡ a → (b : Bool)
        → pick a (Err fa.PayloadSpills) (pick b (Err fa.CellCut) (Ok p)) ≡ Err fa.PayloadSpills → Over file x p
    go true t b d = (refl, ltb-true x p t)
    go false t true d = never cc
    go false t false d = never cc

over-payload : (r : Reading) (x p : ℕ) (s : List ℕ) → Over r x p → payload_in r x p s ≡ Err fa.PayloadSpills
over-payload old x p s o = never cc
over-payload file x p s o = rw (lt-ltb x p o.1)

-- the numbers of a cell that is Err so
pub record Spills (r : Reading) (k : Kind) (u : ℕ) (s : List ℕ) : Type 0 where
  pub numbers : Numbers
  pub read : numbers_of r k s ≡ Ok numbers
  pub sized : has_size k ≡ true
  pub over : Over r (most_whole k u) numbers.size.value

module _ (r : Reading) (k : Kind) (u : ℕ) (n : Numbers) (s : List ℕ) where
  abbrev made : ℕ → Record → Number → Result Cell Fault
  made p x row = Ok (record { numbers = n; payload = p; header = x.header; types = x.types; row = row })

  abbrev rest : ℕ → Record → Result Cell Fault
  rest p x = found fa.ClosingCut (number_in (has_closing r k) 5 n.key (drop (length (take p s) - x.left) (take p s))) >>= made p x

  behind-over : behind r k u n s ≡ Err fa.PayloadSpills → Over r (most_whole k u) n.size.value
  unfolding behind
  behind-over e = by-payload (payload_in r (most_whole k u) n.size.value s) refl e
    where
      by_row : (p : ℕ) (x : Record) (v : Result Number Cause) → (found fa.ClosingCut v >>= made p x) ≡ Err fa.PayloadSpills → ⊥
      by_row p x (Err c) d = never cc
      by_row p x (Ok row) d = never cc

      by-record : (p : ℕ) (x : Result Record Fault) → record_of r (take p s) ≡ x → (x >>= rest p) ≡ Err fa.PayloadSpills → ⊥
      by-record p (Err fault) i d = not-spilled r (take p s) cc
      by-record p (Ok x) i d = by_row p x (number_in (has_closing r k) 5 n.key (drop (length (take p s) - x.left) (take p s))) d

      by-payload : (x : Result ℕ Fault) → payload_in r (most_whole k u) n.size.value s ≡ x
          → (x >>= (λ p. record_of r (take p s) >>= rest p)) ≡ Err fa.PayloadSpills → Over r (most_whole k u) n.size.value
      by-payload (Err fault) i d = payload-over r (most_whole k u) n.size.value s cc
      by-payload (Ok p) i d = absurd (by-record p (record_of r (take p s)) refl d)

module _ (r : Reading) (k : Kind) (u : ℕ) (s : List ℕ) where
  -- a cell with no numbers is Err as they are
  pub unnumbered : {fault : Fault} → numbers_of r k s ≡ Err fault → cell_of r k u s ≡ Err fault
  unfolding cell_of
  unnumbered e = rw e

  pub cell-spills : Spills r k u s → cell_of r k u s ≡ Err fa.PayloadSpills
  unfolding cell_of behind
  cell-spills h =
      let e = over-payload r (most_whole k u) h.numbers.size.value (drop h.numbers.length s) h.over in
      rw (h.read, h.sized, e)

  pub spills-cell : cell_of r k u s ≡ Err fa.PayloadSpills → Spills r k u s
  unfolding cell_of
  spills-cell e = by-numbers (numbers_of r k s) (numbers-told r k s) refl e
    where
      by_size : (n : Numbers) → numbers_of r k s ≡ Ok n → (has : Bool) → has_size k ≡ has
          → pick has (behind r k u n (drop n.length s)) (Ok (bare n)) ≡ Err fa.PayloadSpills → Spills r k u s
      by_size n i true h d = record { numbers = n; read = i; sized = h; over = behind-over r k u n (drop n.length s) d }
      by_size n i false h d = never cc

      by-numbers : (x : Result Numbers Fault) → Told r k s x → numbers_of r k s ≡ x
          → (x >>= (λ n. pick (has_size k) (behind r k u n (drop n.length s)) (Ok (bare n)))) ≡ Err fa.PayloadSpills → Spills r k u s
      by-numbers x cut i d = never cc
      by-numbers x (read {n = n} t) i d = by_size n i (has_size k) refl d
