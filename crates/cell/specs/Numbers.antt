-- The numbers before a cell's payload: child, payload size, row number or key, as far as the kind has them, each behind the
-- one before. File format, 1.6 "B-tree Pages".
use Rattle.std.specs.Prelude.{ℕ, ◌+◌, List, Bool, true, false, ltb, length, drop, Err, Ok, Result}
use Rattle.laws.specs.Pick.{pick}
use Rattle.fields.specs.Fields.{unsigned}
use Rattle.varint.specs.declared.Number.{Number}
use Rattle.varint.specs.Varint.{number, varint_of}
use Rattle.reading.specs.declared.Reading.{Reading}
use Rattle.reading.specs.Reading.{limit}
use Rattle.answers.specs.declared.Fault.{Fault}
use Rattle.answers.specs.declared.Fault.TheVariants as fa
use Rattle.answers.specs.Answer.{◌>>=◌}
use Rattle.record.specs.Record.{found}
use Rattle.kinds.specs.declared.Kind.{Kind}
use Rattle.kinds.specs.Kind.{interior, has_size, has_row, child_bytes}
use Rattle.cell.specs.declared.Numbers.{Numbers}
use Rattle.varint.specs.declared.Cause.{Cause}

-- 0 in no bytes, for what a kind lacks
abbrev pub none : Number
none = number 0 0

-- a varint, where there is one; `other` where there is none
abbrev pub number_in : Bool → ℕ → Number → List ℕ → Result Number Cause
number_in true limit other s = varint_of limit s
number_in false limit other s = Ok other

abbrev pub child_at : Kind → List ℕ → ℕ
child_at k s = pick (interior k) (unsigned 4 s) 0

abbrev pub child_of : Kind → List ℕ → Result ℕ Fault
child_of k s = pick (ltb (length s) (child_bytes k)) (Err fa.CellCut) (Ok (child_at k s))

-- the numbers of the cell of kind k that begins s
unfoldable pub numbers_of : Reading → Kind → List ℕ → Result Numbers Fault
numbers_of r k s = do
  child ← child_of k s
  size ← found fa.CellCut (number_in (has_size k) (limit r) none (drop (child_bytes k) s))
  key ← found fa.CellCut (number_in (has_row k) (limit r) none (drop (child_bytes k + size.length) s))
  Ok (record { child = child; size = size; key = key; length = child_bytes k + size.length + key.length })
