-- Rows worked by hand, as one table under one statement: varints, and payloads of table leaf cells, in the three readings.
use Rattle.std.specs.Prelude.{ℕ, ◌+◌, ◌-◌, ◌/◌, ◌%◌, ◌≡◌, List, [], ◌∷◌, ◌++◌, map, length, replicate, ℤ, pos, negsuc, Err, Ok, Result}
use Rattle.varint.specs.declared.Cause.TheVariants.{WithoutEnd}
use Rattle.varint.specs.Varint.{number, varint_of}
use Rattle.answers.specs.declared.Refusal.TheVariants.{InCell}
use Rattle.answers.specs.declared.Fault.{Fault}
use Rattle.answers.specs.declared.Fault.TheVariants as fa
use Rattle.answers.specs.declared.Mark.TheVariants as ma
use Rattle.header.specs.Header.{opening}
use Rattle.cells.specs.Located.{row_number}
use Rattle.agreement.specs.Shows.{null, integer, text, blob, Row, none, row, old_shows, file_shows, guarded_shows}
use Rattle.varint.specs.declared.Cause.{Cause}
use Rattle.varint.specs.declared.Number.{Number}

-- the bytes of a varint, or a payload and what stands behind it on its page
pub data Given : Type 0 where
  varint : List ℕ → Given
  payload : List ℕ → List ℕ → Given

-- a varint in old and in file, and the row number that it is in file; or a row in old, file and guarded
pub data Seen : Type 0 where
  numbers : Result Number Cause → Result Number Cause → ℤ → Seen
  rows : Row → Row → Row → Seen

-- A DATABASE OF ONE PAGE, of 512 bytes, that ends in one cell: the payload as row 1, and what stands behind it

abbrev pub start_of : List ℕ → List ℕ → ℕ
start_of p z = 510 - (length p + length z)

abbrev pub head_of : ℕ → List ℕ
head_of start =
    opening ++ (2 ∷ 0 ∷ 1 ∷ 1 ∷ 0 ∷ 64 ∷ 32 ∷ 32 ∷ []) ++ replicate 35 0 ++ (1 ∷ []) ++ replicate 40 0
    ++ (13 ∷ 0 ∷ 0 ∷ 0 ∷ 1 ∷ start / 256 ∷ start % 256 ∷ 0 ∷ start / 256 ∷ start % 256 ∷ [])

unfoldable pub database_of : List ℕ → List ℕ → List ℕ
database_of p z = head_of (start_of p z) ++ replicate (start_of p z - 110) 0 ++ (length p ∷ 1 ∷ p) ++ z

abbrev pub row_number_of : Result Number Cause → ℤ
row_number_of (Ok n) = row_number n.value
row_number_of (Err cause) = pos 0

unfoldable pub seen_of : Given → Seen
seen_of (varint s) = numbers (varint_of 5 s) (varint_of 9 s) (row_number_of (varint_of 9 s))
seen_of (payload p z) =
    rows (old_shows 0 0 (database_of p z)) (file_shows 1 0 (database_of p z)) (guarded_shows 1 0 (database_of p z))

-- THE TABLE

infixl 20 ◌⟹◌
pub data Line : Type 0 where
  ◌⟹◌ : Given → Seen → Line

abbrev pub given : Line → Given
given (g ⟹ s) = g

abbrev pub seen : Line → Seen
seen (g ⟹ s) = s

abbrev pub value : ℕ → ℕ → Result Number Cause
value v length = Ok (number v length)

-- row 1 with one integer or more, and the refusals of cell 0: the page is 0 in old, 1 in file and guarded
abbrev pub ints : List ℤ → Row
ints ns = row (pos 1) (map integer ns)

abbrev pub in-old : Fault → Row
in-old fault = none (InCell 0 0 fault)

abbrev pub in-file : Fault → Row
in-file fault = none (InCell 1 0 fault)

-- the three readings alike
abbrev pub all : Row → Seen
all r = rows r r r

abbrev pub refusals : Fault → Seen
refusals fault = rows (in-old fault) (in-file fault) (in-file fault)

abbrev pub table : List Line
table =
    (varint (0x81 ∷ 0x00 ∷ []) ⟹ numbers (value 128 2) (value 128 2) (pos 128))
    ∷ (varint (0xff ∷ 0xff ∷ 0xff ∷ 0xff ∷ 0x7f ∷ []) ⟹ numbers (value 34359738367 5) (value 34359738367 5) (pos 34359738367))
    ∷ (varint (0x81 ∷ 0x80 ∷ 0x80 ∷ 0x80 ∷ 0x80 ∷ 0x00 ∷ []) ⟹ numbers (Err WithoutEnd) (value 34359738368 6) (pos 34359738368))
    ∷ (varint (replicate 9 0xff) ⟹ numbers (Err WithoutEnd) (value 18446744073709551615 9) (negsuc 0))
    ∷ (payload (3 ∷ 9 ∷ 4 ∷ 1 ∷ 0 ∷ 0 ∷ 0 ∷ []) [] ⟹ rows (ints (pos 0 ∷ pos 16777216 ∷ [])) (ints (pos 1 ∷ pos 16777216 ∷ [])) (in-file (fa.Marked ma.StoredOne)))
    ∷ (payload (3 ∷ 8 ∷ 4 ∷ 1 ∷ 0 ∷ 0 ∷ 0 ∷ []) [] ⟹ all (ints (pos 0 ∷ pos 16777216 ∷ [])))
    ∷ (payload (2 ∷ 13 ∷ []) [] ⟹ rows (row (pos 1) (null ∷ [])) (row (pos 1) (text [] ∷ [])) (in-file (fa.Marked ma.EmptyValue)))
    ∷ (payload (2 ∷ 12 ∷ []) [] ⟹ rows (row (pos 1) (null ∷ [])) (row (pos 1) (blob [] ∷ [])) (in-file (fa.Marked ma.EmptyValue)))
    ∷ (payload (2 ∷ 10 ∷ []) [] ⟹ refusals (fa.TypeReserved 0))
    ∷ (payload (2 ∷ 3 ∷ 1 ∷ 2 ∷ 3 ∷ []) [] ⟹ all (ints (pos 66051 ∷ [])))
    ∷ (payload (2 ∷ 3 ∷ 0x80 ∷ 0 ∷ 0 ∷ []) [] ⟹ all (ints (negsuc 8388607 ∷ [])))
    ∷ (payload (2 ∷ 6 ∷ 0x80 ∷ replicate 7 0) [] ⟹ all (ints (negsuc 9223372036854775807 ∷ [])))
    ∷ (payload (3 ∷ 1 ∷ 1 ∷ 7 ∷ 8 ∷ []) [] ⟹ all (ints (pos 7 ∷ pos 8 ∷ [])))
    ∷ (payload (2 ∷ 5 ∷ 0xff ∷ 0xff ∷ 0xff ∷ 0xff ∷ 0xff ∷ 0xfe ∷ []) [] ⟹ all (ints (negsuc 1 ∷ [])))
    ∷ (payload (0x80 ∷ 3 ∷ 1 ∷ 5 ∷ []) [] ⟹ rows (in-old (fa.ValueUnfit 0)) (ints (pos 5 ∷ [])) (in-file (fa.Marked ma.WideHeaderSize)))
    -- a header size in two bytes that does no harm: a byte that ends no type stands behind the record
    ∷ (payload (0x80 ∷ 3 ∷ 8 ∷ []) (0xff ∷ []) ⟹ rows (ints (pos 0 ∷ [])) (ints (pos 0 ∷ [])) (in-file (fa.Marked ma.WideHeaderSize)))
    ∷ (payload (3 ∷ 1 ∷ 0x81 ∷ 5 ∷ []) [] ⟹ rows (ints (pos 5 ∷ [])) (in-file fa.HeaderUnfit) (in-file fa.HeaderUnfit))
    -- a type in six bytes, which the old reading takes for the end of the types, and a byte behind the last value
    ∷ (payload (7 ∷ 0x80 ∷ 0x80 ∷ 0x80 ∷ 0x80 ∷ 0x80 ∷ 8 ∷ []) [] ⟹ rows (row (pos 1) []) (ints (pos 0 ∷ [])) (in-file (fa.Marked ma.LongVarint)))
    ∷ (payload (2 ∷ 1 ∷ 5 ∷ 6 ∷ []) [] ⟹ rows (ints (pos 5 ∷ [])) (in-file (fa.ValueUnfit 1)) (in-file (fa.ValueUnfit 1)))
    ∷ []

abbrev pub Worked : Type 0
Worked = map (λ line. seen_of (given line)) table ≡ map seen table
