-- What callers cite of a gathered cell: it taken apart, each way to refuse it, and how long its payload is.
use Prim.Native.Nat.{ℕ, ◌+◌, ◌≤◌}
use mathlib.Core.Path.{◌≡◌, refl, sym, ◌∙◌}
use mathlib.Core.List.{List}
use mathlib.Core.Bool.{Bool, true, false}
use lib.Dec.{ltb}
use lib.ListN.{length, drop}
use borrow.Author.Tests.{ltb-true, ltb-false}
use Rattle.laws.proofs.Never.{never}
use Rattle.reading.specs.declared.Reading.TheVariants.{File as file}
use Rattle.answers.specs.declared.Fault.{Fault}
use Rattle.answers.specs.declared.Flaw.{Flaw}
use Rattle.answers.specs.declared.Refusal.{Refusal}
use Rattle.answers.specs.declared.Refusal.TheVariants.{OfDatabase, InCell}
use Rattle.kinds.specs.declared.Kind.{Kind}
use Rattle.cell.specs.declared.Numbers.{Numbers}
use Rattle.header.proofs.Laws.{passed-usable}
use Rattle.shape.specs.declared.Shape.{Shape}
use Rattle.shape.specs.Shape.{shape_of}
use Rattle.shape.proofs.Laws.{shape-shown, end-within}
use Rattle.page.specs.declared.Open.{Open}
use Rattle.cells.specs.Located.{part_in}
use Rattle.cells.specs.Numbered.{numbers_in}
use Rattle.chain.specs.Payload.{payload_of}
use Rattle.links.specs.Whole.{Shaped, whole}
use Rattle.chain.specs.Gathered.{Gathered, gathered_with, gathered_in, payload_answer}
use Rattle.chain.proofs.Payloads.{kept, chain, joined, payload-short, payload_cut, payload-unfit, payload-joined}
use Rattle.chain.proofs.Payloads.{joined_length}
use Rattle.std.specs.Prelude.{Err, Ok, Result}

-- a shape that the file reading shows has pages with room for content
pub shape-shaped : (db : List ℕ) {shape : Shape} → shape_of file db ≡ Ok shape → Shaped shape
shape-shaped db e =
    let k = shape-shown file db e in
    (rw k.1 (passed-usable db k.0), end-within file db e)

-- PAYLOADS

-- the code's answer is the definition's
pub record Whole (x : Result (List ℕ) Fault) (n : ℕ) : Type 0 where
  pub payload : List ℕ
  pub is : x ≡ Ok payload
  pub size : length payload ≡ n

pub payload-answered : (x : Result (List ℕ) Fault) {n : ℕ} → payload_answer x ≡ Ok n → Whole x n
payload-answered (Err fault) e = never cc
payload-answered (Ok q) e = record { payload = q; is = refl; size = cc }

pub payload-unanswered : (x : Result (List ℕ) Fault) {fault : Fault} → payload_answer x ≡ Err fault → x ≡ Err fault
payload-unanswered (Err other) e = cc
payload-unanswered (Ok q) e = never cc

-- one that is gathered fits the buffer, and has the size that its cell says
payload-length : (k : Kind) (shape : Shape) (room p : ℕ) (s db : List ℕ) → Shaped shape → {q : List ℕ}
    → payload_of k shape room p s db ≡ Ok q → (p ≤ room) × (length q ≡ p)
payload-length k shape room p s db is {q} e = by-room (ltb room p) refl
  where
    by_chain : p ≤ room → kept k shape p s db + 4 ≤ length s → (b : Bool) → whole (chain k shape p s db) ≡ b
        → (p ≤ room) × (length q ≡ p)
    by_chain h l false w = let d = payload-unfit k shape p s db room h l w in never cc
    by_chain h l true w =
        let d = payload-joined k shape p s db room h l w in
        let j : joined k shape p s db ≡ q = cc in
        (h, rw (← j) (joined_length k shape p s db l is w))

    by_length : p ≤ room → (b : Bool) → ltb (length s) (kept k shape p s db + 4) ≡ b → (p ≤ room) × (length q ≡ p)
    by_length h true t =
        let d = payload_cut k shape p s db room h (ltb-true (length s) (kept k shape p s db + 4) t) in never cc
    by_length h false t =
        by_chain h (ltb-false (length s) (kept k shape p s db + 4) t) (whole (chain k shape p s db)) refl

    by-room : (b : Bool) → ltb room p ≡ b → (p ≤ room) × (length q ≡ p)
    by-room true t = let d = payload-short k shape p s db room (ltb-true room p t) in never cc
    by-room false t = by_length (ltb-false room p t) (ltb (length s) (kept k shape p s db + 4)) refl

-- A GATHERED CELL

-- the payload behind its numbers
abbrev pub payload_behind : Open → ℕ → ℕ → List ℕ → Shape → Numbers → Result (List ℕ) Fault
payload_behind o i room db shape n = payload_of o.kind shape room n.size.value (drop n.length (part_in o i db)) db

record Parts (o : Open) (i : ℕ) (n : Numbers) (room : ℕ) (db : List ℕ) (g : Gathered) : Type 0 where
  shape : Shape
  shaped : shape_of file db ≡ Ok shape
  numbers : g.numbers ≡ n
  payload : payload_behind o i room db shape n ≡ Ok g.payload

module _ (o : Open) (i : ℕ) (n : Numbers) (room : ℕ) (db : List ℕ) where
  pub gathered-unshaped : {flaw : Flaw} → shape_of file db ≡ Err flaw → gathered_with o i n room db ≡ Err (OfDatabase flaw)
  unfolding gathered_with
  gathered-unshaped e = rw e

  module _ {shape : Shape} (e : shape_of file db ≡ Ok shape) where
    pub gathered-faulty : {fault : Fault} → payload_behind o i room db shape n ≡ Err fault
        → gathered_with o i n room db ≡ Err (InCell o.page.number i fault)
    unfolding gathered_with
    gathered-faulty q = rw (e, q)

    pub gathered-shown : {payload : List ℕ} → payload_behind o i room db shape n ≡ Ok payload
        → gathered_with o i n room db ≡ Ok (record { numbers = n; payload = payload })
    unfolding gathered_with
    gathered-shown q = rw (e, q)

  gathered : {g : Gathered} → gathered_with o i n room db ≡ Ok g → Parts o i n room db g
  gathered {g} e = by_shape (shape_of file db) refl
    where
      by-payload : {shape : Shape} → shape_of file db ≡ Ok shape → (x : Result (List ℕ) Fault) → payload_behind o i room db shape n ≡ x
          → Parts o i n room db g
      by-payload s (Err fault) q = let d = gathered-faulty s q in never cc
      by-payload {shape} s (Ok payload) q =
          let d = gathered-shown s q in
          let j : record { numbers = n; payload = payload } ≡ g = cc in
          rw (← j) (record { shape = shape; shaped = s; numbers = refl; payload = q })

      by_shape : (x : Result Shape Flaw) → shape_of file db ≡ x → Parts o i n room db g
      by_shape (Err flaw) s = let d = gathered-unshaped s in never cc
      by_shape (Ok shape) s = by-payload s (payload_behind o i room db shape n) refl

  pub given-numbers : {g : Gathered} → gathered_with o i n room db ≡ Ok g → g.numbers ≡ n
  given-numbers e = (gathered e).numbers

-- BY ITS NUMBERS

module _ (o : Open) (i room : ℕ) (db : List ℕ) where
  pub gathered-numbered : {n : Numbers} → numbers_in o i db ≡ Ok n → gathered_in o i room db ≡ gathered_with o i n room db
  unfolding gathered_in
  gathered-numbered e = rw e

  pub gathered-unnumbered : {refusal : Refusal} → numbers_in o i db ≡ Err refusal → gathered_in o i room db ≡ Err refusal
  unfolding gathered_in
  gathered-unnumbered e = rw e

  -- they are those of the cell, and its payload has the size that they say and fits the buffer
  told : {g : Gathered} → gathered_in o i room db ≡ Ok g
      → (numbers_in o i db ≡ Ok g.numbers) × (g.numbers.size.value ≤ room) × (length g.payload ≡ g.numbers.size.value)
  told {g} e = by-numbers (numbers_in o i db) refl
    where
      by-numbers : (x : Result Numbers Refusal) → numbers_in o i db ≡ x
          → (numbers_in o i db ≡ Ok g.numbers) × (g.numbers.size.value ≤ room) × (length g.payload ≡ g.numbers.size.value)
      by-numbers (Err refusal) m = let d = gathered-unnumbered m in never cc
      by-numbers (Ok n) m =
          let p = gathered o i n room db (sym (gathered-numbered m) ∙ e) in
          let l = payload-length o.kind p.shape room n.size.value (drop n.length (part_in o i db)) db (shape-shaped db p.shaped) p.payload in
          rw p.numbers (m, l.0, l.1)

  pub gathered-numbers : {g : Gathered} → gathered_in o i room db ≡ Ok g → numbers_in o i db ≡ Ok g.numbers
  gathered-numbers e = (told e).0

  pub gathered-length : {g : Gathered} → gathered_in o i room db ≡ Ok g
      → (g.numbers.size.value ≤ room) × (length g.payload ≡ g.numbers.size.value)
  gathered-length e = let t = told e in (t.1, t.2)
