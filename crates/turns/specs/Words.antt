-- Values and answers in a lent list, as C lays them out on x86-64: words of 64 bits, the lower bytes first.
use Rattle.std.specs.Prelude.{ℕ, ◌+◌, ◌*◌, ◌^◌, List, [], ◌∷◌, ◌++◌, ℤ, drop}
use Rattle.fields.specs.Fields.{twos}
use Rattle.reading.specs.declared.Reading.{Reading}
use Rattle.reading.specs.declared.Reading.TheVariants.{Old as old, File as file}
use Rattle.values.specs.Old as ov
use Rattle.values.specs.File as fv
use Rattle.turns.specs.declared.types.Refused.{Refused}
use Rattle.turns.specs.declared.types.Value.{Value}
use Rattle.turns.specs.declared.types.Shown.{Shown}
use Rattle.turns.specs.Shown.{old_value, file_value}

-- a word by its 64 bits
abbrev pub word : ℕ → ℤ
word v = twos (2 ^ 64) v

-- a value in five: kind and width are the first two bytes of a word
abbrev pub words_of : Value → List ℤ
words_of v = word (v.kind + 256 * v.width) ∷ v.integer ∷ word v.bits ∷ word v.at ∷ word v.len ∷ []

-- a refusal in three: number and mark are the first two bytes of a word, and the page its upper half
abbrev pub refused_words : Refused → List ℤ
refused_words r = word (r.number + 256 * r.mark + 2 ^ 32 * r.page) ∷ word r.cell ∷ word r.column ∷ []

-- an answer in eight
abbrev pub shown_words : Shown → List ℤ
shown_words s = refused_words s.refused ++ words_of s.value

-- the value of a column as its reading shows it
abbrev pub value_at : Reading → ℕ → ℕ → List ℕ → Value
value_at old t at db = old_value (ov.value_of t at (drop at db))
value_at file t at db = file_value (fv.value_of t at (drop at db))
