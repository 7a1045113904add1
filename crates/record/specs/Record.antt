-- A record in both readings: header size, types, values. File format, 2.1 "Record Format", and the Rust's
-- `table_cell_payload` and `index_cell_payload`.
use Rattle.std.specs.Prelude.{ℕ, ◌+◌, ◌-◌, List, Bool, ltb, eqb, length, take, drop, Err, Ok, Result}
use Rattle.laws.specs.Pick.{pick}
use Rattle.varint.specs.declared.Number.{Number}
use Rattle.varint.specs.Varint.{varint_of}
use Rattle.reading.specs.declared.Reading.{Reading}
use Rattle.reading.specs.declared.Reading.TheVariants.{Old as old, File as file}
use Rattle.reading.specs.Reading.{limit}
use Rattle.answers.specs.declared.Fault.{Fault}
use Rattle.answers.specs.declared.Fault.TheVariants as fa
use Rattle.record.specs.declared.Laid.{Laid}
use Rattle.record.specs.declared.Laid.TheVariants.{Ends, Breaks, Reserved, Passes}
use Rattle.answers.specs.Answer.{◌>>=◌}
use Rattle.record.specs.Types.{Types, types_of, ended, count, walk}
use Rattle.record.specs.declared.Fitted.{Fitted}
use Rattle.record.specs.declared.Record as dr
use Rattle.varint.specs.declared.Cause.{Cause}

-- types and values that fit: so many columns, and so many bytes behind them
abbrev pub fits_with : ℕ → ℕ → Result Fitted Fault
fits_with columns left = Ok (record { columns = columns; left = left })

-- WHERE THE READINGS PART: all of it, for a record

-- a header size with no end: the Rust's first error, or a header that has no end in the payload
abbrev pub headless : Reading → Fault
headless old = fa.CellCut
headless file = fa.HeaderUnfit

-- how many of its own bytes a header size counts: the Rust takes them for one, however many they are
abbrev pub counted : Reading → ℕ → ℕ
counted old own = 1
counted file own = own

-- how types and values may lie. The Rust stops at the first varint with no end, and lets bytes stand behind the last value
abbrev pub old_judged : Laid → Result Fitted Fault
old_judged (Ends col left) = fits_with col left
old_judged (Breaks col left) = fits_with col left
old_judged (Reserved col) = Err (fa.TypeReserved col)
old_judged (Passes col) = Err (fa.ValueUnfit col)

-- the format wants types that end with the header, before all else, and values that fill the payload
abbrev pub file_judged : Bool → Laid → Result Fitted Fault
file_judged end (Ends col left) = pick (eqb left 0) (fits_with col left) (Err (fa.ValueUnfit col))
file_judged end (Breaks col left) = Err fa.HeaderUnfit
file_judged end (Reserved col) = pick end (Err (fa.TypeReserved col)) (Err fa.HeaderUnfit)
file_judged end (Passes col) = pick end (Err (fa.ValueUnfit col)) (Err fa.HeaderUnfit)

abbrev pub judged : Reading → Types → Laid → Result Fitted Fault
judged old ts laid = old_judged laid
judged file ts laid = file_judged (ended ts) laid

-- THE RECORD

-- a record that is accepted: its header size, its types and how many bytes stand behind its values
pub record Record : Type 0 where
  pub header : Number
  pub types : Types
  pub left : ℕ

-- how many bytes of types stand behind a header size
abbrev pub type_bytes : Reading → Number → ℕ
type_bytes r h = h.value - counted r h.length

-- where the values begin, behind the header
abbrev pub values_at : Reading → Number → ℕ
values_at r h = h.length + type_bytes r h

-- the types of a header of size h, in the bytes s behind the header size, `a` of the header being before s
abbrev pub types_in : Reading → ℕ → ℕ → List ℕ → Types
types_in r a h s = types_of (limit r) (take (h - a) s)

unfoldable pub fitted : Reading → ℕ → ℕ → List ℕ → Result Fitted Fault
fitted r a h s =
    pick (ltb h a) (Err fa.HeaderUnfit)
    (pick (ltb (length s) (h - a)) (Err fa.HeaderUnfit)
    (judged r (types_in r a h s) (walk 0 (length s - (h - a)) (types_in r a h s))))

-- a varint's number, or what it is to have none
abbrev pub found : Fault → Result Number Cause → Result Number Fault
found fault (Err c) = Err fault
found fault (Ok n) = Ok n

-- the bytes behind values that fit
abbrev pub left_by : Result Fitted Fault → Result ℕ Fault
left_by (Ok fit) = Ok fit.left
left_by (Err fault) = Err fault

-- the record that q is (file), or that begins q (old)
unfoldable pub record_of : Reading → List ℕ → Result Record Fault
record_of r q = do
  h ← found (headless r) (varint_of (limit r) q)
  left ← left_by (fitted r (counted r h.length) h.value (drop h.length q))
  Ok (record { header = h; types = types_in r (counted r h.length) h.value (drop h.length q); left = left })

-- as the code has it: the types by their count
abbrev pub answer_of : Reading → Result Record Fault → Result dr.Record Fault
answer_of r (Err fault) = Err fault
answer_of r (Ok c) = Ok (record { header = c.header; values = values_at r c.header; columns = count c.types; left = c.left })
