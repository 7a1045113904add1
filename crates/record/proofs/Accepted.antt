-- A record that is accepted, taken apart once, and put together again.
use Prim.Native.Nat.{ℕ, ◌-◌, ◌≤◌}
use mathlib.Core.Path.{◌≡◌, refl, ◌∙◌}
use mathlib.Core.List.{List}
use mathlib.Core.Bool.{Bool, true, false}
use lib.Dec.{ltb}
use lib.ListN.{length, drop}
use borrow.Author.Tests.{ltb-false}
use Rattle.laws.specs.Pick.{pick}
use Rattle.laws.proofs.Never.{never}
use Rattle.reading.specs.declared.Reading.{Reading}
use Rattle.reading.specs.Reading.{limit}
use Rattle.varint.specs.declared.Number.{Number}
use Rattle.varint.specs.Varint.{varint_of}
use Rattle.answers.specs.declared.Fault.TheVariants as fa
use Rattle.answers.specs.Answer.{◌>>=◌}
use Rattle.record.specs.Types.{count, walk}
use Rattle.record.specs.Record.{Record, headless, counted, judged, type_bytes, types_in, fitted, found, left_by, record_of}
use Rattle.record.proofs.Count.{fits_count}
use Rattle.record.proofs.Stages.{fit-laid}
use Rattle.answers.specs.declared.Fault.{Fault}
use Rattle.record.specs.Record.{fits_with}
use Rattle.record.specs.declared.Fitted.{Fitted}
use Rattle.std.specs.Prelude.{Err, Ok, Result}
use Rattle.varint.specs.declared.Cause.{Cause}

-- types and values that fit: the header's bytes are there
pub record Headed (r : Reading) (a h : ℕ) (s : List ℕ) (n left : ℕ) : Type 0 where
  pub low : a ≤ h
  pub room : h - a ≤ length s
  pub fits : judged r (types_in r a h s) (walk 0 (length s - (h - a)) (types_in r a h s)) ≡ fits_with n left

pub fits-headed : (r : Reading) (a h : ℕ) (s : List ℕ) {n left : ℕ} → fitted r a h s ≡ fits_with n left → Headed r a h s n left
unfolding fitted
fits-headed r a h s {n} {left} e = go (ltb h a) (ltb (length s) (h - a)) refl refl e
  where
    go : (below short : Bool) → ltb h a ≡ below → ltb (length s) (h - a) ≡ short
        → pick below (Err fa.HeaderUnfit) (pick short (Err fa.HeaderUnfit) (judged r (types_in r a h s) (walk 0 (length s - (h - a)) (types_in r a h s)))) ≡ fits_with n left
        → Headed r a h s n left
    go true short b l d = never cc
    go false true b l d = never cc
    go false false b l d = record { low = ltb-false h a b; room = ltb-false (length s) (h - a) l; fits = d }

-- the bytes q hold the record c
pub record Accepted (r : Reading) (q : List ℕ) (c : Record) : Type 0 where
  pub header : varint_of (limit r) q ≡ Ok c.header
  pub low : counted r c.header.length ≤ c.header.value
  pub room : type_bytes r c.header ≤ length (drop c.header.length q)
  pub types : types_in r (counted r c.header.length) c.header.value (drop c.header.length q) ≡ c.types
  pub fits : judged r c.types (walk 0 (length (drop c.header.length q) - type_bytes r c.header) c.types) ≡ fits_with (count c.types) c.left

module _ (r : Reading) (q : List ℕ) where
  abbrev rest : Number → List ℕ
  rest h = drop h.length q

  abbrev fit : Number → Result Fitted Fault
  fit h = fitted r (counted r h.length) h.value (rest h)

  abbrev made : Number → ℕ → Record
  made h left = record { header = h; types = types_in r (counted r h.length) h.value (rest h); left = left }

  pub accepted : {c : Record} → record_of r q ≡ Ok c → Accepted r q c
  unfolding record_of
  accepted {c} e = by-header (varint_of (limit r) q) refl e
    where
      by-fit : (h : Number) → varint_of (limit r) q ≡ Ok h → (f : Result Fitted Fault) → fit h ≡ f
          → (left_by f >>= (λ left. Ok (made h left))) ≡ Ok c → Accepted r q c
      by-fit h i (Err fault) j d = never cc
      by-fit h i (Ok fit) j d =
          let k : made h fit.left ≡ c = cc in
          let o = fits-headed r (counted r h.length) h.value (rest h) j in
          rw (← k)
          (record { header = i; low = o.low; room = o.room; types = refl; fits = rw (fits_count r (counted r h.length) h.value (rest h) j) at o.fits })

      by-header : (v : Result Number Cause) → varint_of (limit r) q ≡ v
          → (found (headless r) v >>= (λ h. left_by (fit h) >>= (λ left. Ok (made h left)))) ≡ Ok c → Accepted r q c
      by-header (Err cause) i d = never cc
      by-header (Ok h) i d = by-fit h i (fit h) refl d

  pub record-again : {c : Record} → Accepted r q c → record_of r q ≡ Ok c
  unfolding record_of
  record-again {c} a =
      let h = c.header in
      let f = fit-laid r (counted r h.length) h.value (rest h) a.low a.room in
      let g : fit h ≡ fits_with (count c.types) c.left = rw a.types at f ∙ a.fits in
      rw (a.header, g, a.types)
