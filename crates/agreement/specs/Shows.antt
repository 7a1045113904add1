-- What each reading shows of a cell, made of what its calls answer: a refusal, or a row number and as many values as the
-- column count says. Values are held against each other by their meaning: integers by number, reals by bits, texts and
-- blobs by byte.
use Rattle.std.specs.Prelude.{ℕ, zero, suc, List, [], ◌∷◌, ℤ, Err, Ok, Result}
use Rattle.answers.specs.declared.Refusal.{Refusal}
use Rattle.parts.specs.Part.{part_of}
use Rattle.values.specs.declared.old.Value as ov
use Rattle.values.specs.declared.old.Value.TheVariants as ol
use Rattle.values.specs.declared.file.Value as fv
use Rattle.values.specs.declared.file.Value.TheVariants as fi
use Rattle.place.specs.Place.{old_page, file_page}
use Rattle.row_head.specs.Head.{count_of, row_of}
use Rattle.row_values.specs.Old as old-calls
use Rattle.row_values.specs.File as file-calls
use Rattle.guarded.specs.Guarded as guarded-calls
use Rattle.row_head.specs.declared.ColumnCount.{ColumnCount}
use Rattle.row_head.specs.declared.RowNumber.{RowNumber}

-- what a value says, whatever the width of its integer
pub data Meaning : Type 0 where
  null : Meaning
  integer : ℤ → Meaning
  real : ℕ → Meaning
  text : List ℕ → Meaning
  blob : List ℕ → Meaning
  refused : Refusal → Meaning

abbrev pub old_means : List ℕ → ov.Value → Meaning
old_means db ol.Null = null
old_means db (ol.I8 n) = integer n
old_means db (ol.I16 n) = integer n
old_means db (ol.I32 n) = integer n
old_means db (ol.I64 n) = integer n
old_means db (ol.F64 number bits) = real bits
old_means db (ol.Blob at len) = blob (part_of at len db)
old_means db (ol.Text at len) = text (part_of at len db)

abbrev pub file_means : List ℕ → fv.Value → Meaning
file_means db fi.Null = null
file_means db (fi.Integer n) = integer n
file_means db (fi.Real number bits) = real bits
file_means db (fi.Blob at len) = blob (part_of at len db)
file_means db (fi.Text at len) = text (part_of at len db)

abbrev pub old_answer : List ℕ → Result ov.Value Refusal → Meaning
old_answer db (Ok value) = old_means db value
old_answer db (Err refusal) = refused refusal

abbrev pub file_answer : List ℕ → Result fv.Value Refusal → Meaning
file_answer db (Ok value) = file_means db value
file_answer db (Err refusal) = refused refusal

-- the first n values
abbrev pub listed : ℕ → (ℕ → Meaning) → List Meaning
listed zero value = []
listed (suc n) value = value 0 ∷ listed n (λ k. value (suc k))

pub data Row : Type 0 where
  none : Refusal → Row
  row : ℤ → List Meaning → Row

abbrev pub row_from : Result ColumnCount Refusal → Result RowNumber Refusal → (ℕ → Meaning) → Row
row_from (Err refusal) number value = none refusal
row_from (Ok count) (Err refusal) value = none refusal
row_from (Ok count) (Ok told) value = row told.number (listed count.columns value)

-- pages count from 0
unfoldable pub old_shows : ℕ → ℕ → List ℕ → Row
old_shows number i db =
    row_from (count_of (old_page number) i db) (row_of (old_page number) i db) (λ k. old_answer db (old-calls.shown_of number i k db))

-- pages count from 1
unfoldable pub file_shows : ℕ → ℕ → List ℕ → Row
file_shows number i db =
    row_from (count_of (file_page number) i db) (row_of (file_page number) i db) (λ k. file_answer db (file-calls.shown_of number i k db))

unfoldable pub guarded_shows : ℕ → ℕ → List ℕ → Row
guarded_shows number i db =
    row_from (guarded-calls.count_of number i db) (guarded-calls.row_of number i db) (λ k. file_answer db (guarded-calls.shown_of number i k db))
