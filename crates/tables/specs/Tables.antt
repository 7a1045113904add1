-- The constant tables of the file format, as the definitions read them. The code's are the same lists.
use Rattle.std.specs.Prelude.{ℕ, List, [], ◌∷◌}

-- 2.1 "Record Format": the widths of serial types 0 to 9
abbrev pub widths : List ℕ
widths = 0 ∷ 1 ∷ 2 ∷ 3 ∷ 4 ∷ 6 ∷ 8 ∷ 8 ∷ 0 ∷ 0 ∷ []

-- 1.3 "The Database Header": where each field stands, in the order of the file ..
abbrev pub field_at : List ℕ
field_at =
    16 ∷ 18 ∷ 19 ∷ 20 ∷ 21 ∷ 22 ∷ 23 ∷ 24 ∷ 28 ∷ 32 ∷ 36 ∷ 40 ∷ 44 ∷ 48 ∷ 52 ∷ 56 ∷ 60 ∷ 64 ∷ 68 ∷ 92 ∷ 96 ∷ []

-- .. and how many bytes it has
abbrev pub field_width : List ℕ
field_width = 2 ∷ 1 ∷ 1 ∷ 1 ∷ 1 ∷ 1 ∷ 1 ∷ 4 ∷ 4 ∷ 4 ∷ 4 ∷ 4 ∷ 4 ∷ 4 ∷ 4 ∷ 4 ∷ 4 ∷ 4 ∷ 4 ∷ 4 ∷ 4 ∷ []
