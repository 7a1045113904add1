-- The rest of a cell's line in the file reading, in ASCII: its row number and its values, or the refusal. The table is that of
-- docs/READINGS.md, row by row.
use Rattle.std.specs.Prelude.{ℕ, zero, suc, List, [], ◌∷◌, ◌++◌, Err, None, Ok, Option, Result, Some}
use Rattle.answers.specs.Numbers.{numbers_of}
use Rattle.values.specs.declared.file.Value.{Value}
use Rattle.values.specs.declared.file.Value.TheVariants.{Null, Integer, Real, Text, Blob}
use Rattle.parts.specs.Part.{part_of}
use Rattle.columns.specs.declared.Cursor.{Cursor}
use Rattle.cells.specs.Located.{row_number}
use Rattle.row_values.specs.declared.file.Column.{Column}
use Rattle.row_values.specs.File.{next_of}
use Rattle.print.specs.Hex.{hex_of}
use Rattle.print.specs.Text.{bits_of, signed_of, refused_of}
use Rattle.answers.specs.declared.Refusal.{Refusal}
use Rattle.row.specs.declared.FoundCell.{FoundCell}

-- ` null`; or a space, `i:`, `r:`, `b:` or `t:`, and what it is
abbrev pub value_text : List ℕ → Value → List ℕ
value_text db Null = 0x20 ∷ 0x6e ∷ 0x75 ∷ 0x6c ∷ 0x6c ∷ []
value_text db (Integer z) = (0x20 ∷ 0x69 ∷ 0x3a ∷ []) ++ signed_of z
value_text db (Real number bits) = (0x20 ∷ 0x72 ∷ 0x3a ∷ []) ++ bits_of bits
value_text db (Blob at len) = (0x20 ∷ 0x62 ∷ 0x3a ∷ []) ++ hex_of (part_of at len db)
value_text db (Text at len) = (0x20 ∷ 0x74 ∷ 0x3a ∷ []) ++ hex_of (part_of at len db)

abbrev pub onward : List ℕ → Option Column → (Cursor → List ℕ) → List ℕ
onward db None rest = []
onward db (Some col) rest = value_text db col.value ++ rest col.next

-- from a cursor on, at most as many as are counted
unfoldable pub values_text : ℕ → Cursor → List ℕ → List ℕ
values_text zero c db = []
values_text (suc count) c db = onward db (next_of c db) (λ next. values_text count next db)

abbrev pub row_text : List ℕ → Result FoundCell Refusal → List ℕ
row_text db (Err refusal) = refused_of (numbers_of refusal)
row_text db (Ok f) =
    (0x20 ∷ signed_of (row_number f.cell.row.value)) ++ values_text f.cell.columns f.cursor db ++ 0x0a ∷ []
