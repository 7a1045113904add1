-- A cell that was found with a buffer lent, taken apart: the located cell on its page, or the record of a gathered payload,
-- which the buffer then begins with.
use Prim.Native.Nat.{ℕ}
use mathlib.Core.Path.{◌≡◌, refl, sym, ap, ◌∙◌}
use mathlib.Core.List.{List, ◌++◌}
use mathlib.Core.Bool.{Bool, true, false}
use lib.ListN.{length, drop}
use Rattle.laws.specs.Pick.{pick}
use Rattle.laws.proofs.Never.{never}
use Rattle.reading.specs.declared.Reading.TheVariants.{File as file}
use Rattle.answers.specs.declared.Fault.{Fault}
use Rattle.answers.specs.declared.Refusal.{Refusal}
use Rattle.answers.specs.Answer.{◌>>=◌}
use Rattle.record.specs.Record.{Record, record_of}
use Rattle.cell.specs.declared.Numbers.{Numbers}
use Rattle.cell.proofs.Inside.{Held, record-held}
use Rattle.place.specs.declared.Page.{Page}
use Rattle.page.specs.declared.Open.{Open}
use Rattle.page.specs.Open.{open_of}
use Rattle.cells.specs.Located.{Located, in_cell, located_in, located_of}
use Rattle.cells.specs.Numbered.{numbers_in}
use Rattle.cells.proofs.Laws.{located-open}
use Rattle.chain.specs.Gathered.{Gathered, gathered_in, buffer_by}
use Rattle.chain.proofs.Laws.{gathered-numbers}
use Rattle.spilled.specs.Lent.{Spilled, whole, gathered, cell_with, recorded_in, spilled_in, instead, buffer_after, lent_in, buffer_in, lent_of, buffer_on, buffer_of}
use Rattle.spills.specs.Spills.{spills}
use Rattle.std.specs.Prelude.{Err, Ok, Result}

-- what is so of a spilled cell: its record, and the buffer that held b
pub record Got (c : Spilled) (after b : List ℕ) : Type 0 where
  pub held : Held file c.payload c.cell
  pub size : length c.payload ≡ c.cell.payload
  pub buffer : after ≡ c.payload ++ drop (length c.payload) b

recorded-held : (page : Page) (i : ℕ) (g : Gathered) {c : Spilled} → recorded_in page i g ≡ Ok c
    → (c.payload ≡ g.payload) × (length c.payload ≡ c.cell.payload) × Held file c.payload c.cell
recorded-held page i g {c} e = go (record_of file g.payload) refl e
  where
    go : (x : Result Record Fault) → record_of file g.payload ≡ x
        → (in_cell page i x >>= (λ r. Ok (record { page = page; cell = cell_with g r; payload = g.payload }))) ≡ Ok c
        → (c.payload ≡ g.payload) × (length c.payload ≡ c.cell.payload) × Held file c.payload c.cell
    go (Err fault) q d = never cc
    go (Ok r) q d =
        let f : record { page = page; cell = cell_with g r; payload = g.payload } ≡ c = cc in
        rw (← f) (refl, refl, record-held file g.payload (cell_with g r) refl q)

took : {c : Spilled} (x : Result Spilled Refusal) → (x >>= (λ d. Ok (gathered d))) ≡ Ok (gathered c) → x ≡ Ok c
took (Err refusal) d = never cc
took (Ok d) f = cc

-- what it tells of the cell
recorded-told : (page : Page) (i : ℕ) (g : Gathered) {c : Spilled} → recorded_in page i g ≡ Ok c
    → (c.page ≡ page) × (c.cell.numbers ≡ g.numbers) × (c.cell.row ≡ g.numbers.key)
recorded-told page i g {c} e = go (record_of file g.payload) e
  where
    go : (x : Result Record Fault) → (in_cell page i x >>= (λ r. Ok (record { page = page; cell = cell_with g r; payload = g.payload }))) ≡ Ok c
        → (c.page ≡ page) × (c.cell.numbers ≡ g.numbers) × (c.cell.row ≡ g.numbers.key)
    go (Err fault) d = never cc
    go (Ok r) d =
        let f : record { page = page; cell = cell_with g r; payload = g.payload } ≡ c = cc in
        rw (← f) (refl, refl, refl)

module _ (o : Open) (i room : ℕ) (db : List ℕ) where
  -- it is told of its page, and has the numbers that stand there
  pub record Told (c : Spilled) : Type 0 where
    pub page : c.page ≡ o.page
    pub numbers : numbers_in o i db ≡ Ok c.cell.numbers
    pub row : c.cell.row ≡ c.cell.numbers.key

  pub spilled-told : {c : Spilled} → spilled_in o i room db ≡ Ok c → Told c
  unfolding spilled_in
  spilled-told {c} e = go (gathered_in o i room db) refl e
    where
      go : (x : Result Gathered Refusal) → gathered_in o i room db ≡ x → (x >>= recorded_in o.page i) ≡ Ok c → Told c
      go (Err refusal) q d = never cc
      go (Ok g) q d =
          let r = recorded-told o.page i g d in
          record {
            page = r.0;
            numbers = gathered-numbers o i room db q ∙ ap Ok (sym r.1);
            row = r.2 ∙ ap (λ (n : Numbers). n.key) (sym r.1);
          }

  pub lent-told : {c : Spilled} → lent_in o i room db ≡ Ok (gathered c) → Told c
  unfolding lent_in
  lent-told {c} e = go (located_in o i db) e
    where
      go : (x : Result Located Refusal) → instead whole (spilled_in o i room db >>= (λ d. Ok (gathered d))) x ≡ Ok (gathered c) → Told c
      go (Ok l) d = never cc
      go (Err refusal) d = by (spills refusal) d
        where
          by : (t : Bool) → pick t (spilled_in o i room db >>= (λ d. Ok (gathered d))) (Err refusal) ≡ Ok (gathered c) → Told c
          by true f = spilled-told (took (spilled_in o i room db) f)
          by false f = never cc

module _ (o : Open) (i : ℕ) (db b : List ℕ) where
  pub spilled-got : {c : Spilled} → spilled_in o i (length b) db ≡ Ok c → Got c (buffer_by (gathered_in o i (length b) db) b) b
  unfolding spilled_in
  spilled-got {c} e = go (gathered_in o i (length b) db) e
    where
      go : (x : Result Gathered Refusal) → (x >>= recorded_in o.page i) ≡ Ok c → Got c (buffer_by x b) b
      go (Err refusal) d = never cc
      go (Ok g) d =
          let h = recorded-held o.page i g d in
          record { held = h.2; size = h.1; buffer = rw h.0 }

  pub lent-located : (room : ℕ) {l : Located} → lent_in o i room db ≡ Ok (whole l) → located_in o i db ≡ Ok l
  unfolding lent_in
  lent-located room {l} e = go (located_in o i db) e
    where
      not-whole : {A : Type 0} (x : Result Spilled Refusal) → (x >>= (λ c. Ok (gathered c))) ≡ Ok (whole l) → A
      not-whole (Err refusal) d = never cc
      not-whole (Ok c) d = never cc

      go : (x : Result Located Refusal) → instead whole (spilled_in o i room db >>= (λ c. Ok (gathered c))) x ≡ Ok (whole l) → x ≡ Ok l
      go (Ok k) d = cc
      go (Err refusal) d = by (spills refusal) d
        where
          by : (t : Bool) → pick t (spilled_in o i room db >>= (λ c. Ok (gathered c))) (Err refusal) ≡ Ok (whole l) → Err refusal ≡ Ok l
          by true f = not-whole (spilled_in o i room db) f
          by false f = never cc

  pub lent-got : {c : Spilled} → lent_in o i (length b) db ≡ Ok (gathered c) → Got c (buffer_in o i db b) b
  unfolding lent_in buffer_in
  lent-got {c} e = go (located_in o i db) e
    where
      go : (x : Result Located Refusal) → instead whole (spilled_in o i (length b) db >>= (λ d. Ok (gathered d))) x ≡ Ok (gathered c)
          → Got c (buffer_after x (gathered_in o i (length b) db) b) b
      go (Ok l) d = never cc
      go (Err refusal) d = by (spills refusal) d
        where
          by : (t : Bool) → pick t (spilled_in o i (length b) db >>= (λ d. Ok (gathered d))) (Err refusal) ≡ Ok (gathered c)
              → Got c (pick t (buffer_by (gathered_in o i (length b) db) b) b) b
          by true f = spilled-got (took (spilled_in o i (length b) db) f)
          by false f = never cc

-- of a page that is opened first

module _ (page : Page) (i : ℕ) (db b : List ℕ) where
  pub of-located : (room : ℕ) {l : Located} → lent_of page i room db ≡ Ok (whole l) → located_of page i db ≡ Ok l
  unfolding lent_of
  of-located room {l} e = go (open_of page db) refl e
    where
      go : (x : Result Open Refusal) → open_of page db ≡ x → (x >>= (λ o. lent_in o i room db)) ≡ Ok (whole l) → located_of page i db ≡ Ok l
      go (Err refusal) q d = never cc
      go (Ok o) q d = located-open page i db q ∙ lent-located o i db b room d

  pub of-got : {c : Spilled} → lent_of page i (length b) db ≡ Ok (gathered c) → Got c (buffer_of page i db b) b
  unfolding lent_of buffer_of
  of-got {c} e = go (open_of page db) e
    where
      go : (x : Result Open Refusal) → (x >>= (λ o. lent_in o i (length b) db)) ≡ Ok (gathered c) → Got c (buffer_on x i db b) b
      go (Err refusal) d = never cc
      go (Ok o) d = lent-got o i db b d

-- BY WHAT IS FOUND WITH NO BUFFER

module _ (o : Open) (i room : ℕ) (db : List ℕ) where
  pub lent-instead : lent_in o i room db ≡ instead whole (spilled_in o i room db >>= (λ c. Ok (gathered c))) (located_in o i db)
  unfolding lent_in
  lent-instead = refl

  pub lent-whole : {l : Located} → located_in o i db ≡ Ok l → lent_in o i room db ≡ Ok (whole l)
  unfolding lent_in
  lent-whole e = rw e

  pub lent-refused : {refusal : Refusal} → located_in o i db ≡ Err refusal → spills refusal ≡ false → lent_in o i room db ≡ Err refusal
  unfolding lent_in
  lent-refused e t = rw (e, t)

module _ (page : Page) (i room : ℕ) (db : List ℕ) where
  pub lent-open : {o : Open} → open_of page db ≡ Ok o → lent_of page i room db ≡ lent_in o i room db
  unfolding lent_of
  lent-open e = rw e

  pub lent-unopened : {refusal : Refusal} → open_of page db ≡ Err refusal → lent_of page i room db ≡ Err refusal
  unfolding lent_of
  lent-unopened e = rw e
