-- The stages of a record as the code comes to them.
use Prim.Native.Nat.{ℕ, ◌-◌, ◌≤◌, ◌<◌}
use mathlib.Core.Path.{◌≡◌}
use mathlib.Core.List.{List}
use lib.ListN.{length, drop}
use borrow.Author.Tests.{lt-ltb, le-ltb}
use Rattle.reading.specs.declared.Reading.{Reading}
use Rattle.reading.specs.declared.Reading.TheVariants.{Old as old, File as file}
use Rattle.reading.specs.Reading.{limit}
use Rattle.varint.specs.declared.Cause.{Cause}
use Rattle.varint.specs.declared.Number.{Number}
use Rattle.varint.specs.Varint.{varint_of}
use Rattle.answers.specs.declared.Fault.{Fault}
use Rattle.answers.specs.declared.Fault.TheVariants as fa
use Rattle.record.specs.declared.Laid.{Laid}
use Rattle.record.specs.Types.{Types, ended, count, walk}
use Rattle.record.specs.Record.{headless, counted, old_judged, file_judged, judged, values_at, types_in, fitted, record_of, answer_of}
use Rattle.record.specs.Record.{fits_with}
use Rattle.std.specs.Prelude.{Err, Ok}

-- the header's bytes, and how all lies in them
module _ (r : Reading) (a h : ℕ) (s : List ℕ) where
  pub fit-below : h < a → fitted r a h s ≡ Err fa.HeaderUnfit
  unfolding fitted
  fit-below l = rw (lt-ltb h a l)

  module _ (l : a ≤ h) where
    pub fit-short : length s < h - a → fitted r a h s ≡ Err fa.HeaderUnfit
    unfolding fitted
    fit-short k = rw (le-ltb h a l, lt-ltb (length s) (h - a) k)

    pub fit-laid : h - a ≤ length s → fitted r a h s ≡ judged r (types_in r a h s) (walk 0 (length s - (h - a)) (types_in r a h s))
    unfolding fitted
    fit-laid k = rw (le-ltb h a l, le-ltb (length s) (h - a) k)

pub judged-old : {r : Reading} → r ≡ old → (ts : Types) (x : Laid) → judged r ts x ≡ old_judged x
judged-old e ts x = rw e

pub judged-file : {r : Reading} → r ≡ file → (ts : Types) (x : Laid) → judged r ts x ≡ file_judged (ended ts) x
judged-file e ts x = rw e

-- the header size, and what follows it
module _ (r : Reading) (q : List ℕ) where
  pub record-headless : {c : Cause} → varint_of (limit r) q ≡ Err c → answer_of r (record_of r q) ≡ Err (headless r)
  unfolding record_of
  record-headless e = rw e

  module _ {h : Number} (e : varint_of (limit r) q ≡ Ok h) where
    pub record-unfit : {fault : Fault} → fitted r (counted r h.length) h.value (drop h.length q) ≡ Err fault → answer_of r (record_of r q) ≡ Err fault
    unfolding record_of
    record-unfit f = rw (e, f)

    pub record-whole : {col left : ℕ} → fitted r (counted r h.length) h.value (drop h.length q) ≡ fits_with col left
        → answer_of r (record_of r q) ≡ Ok (record { header = h; values = values_at r h; columns = count (types_in r (counted r h.length) h.value (drop h.length q)); left = left })
    unfolding record_of
    record-whole f = rw (e, f)
