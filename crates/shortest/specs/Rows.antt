-- Shortest forms worked by hand, at the ends of one, two, eight and nine bytes.
use Rattle.std.specs.Prelude.{ℕ, ◌-◌, ◌^◌, ◌≡◌, List, [], ◌∷◌, map, false, Ok}
use Rattle.varint.specs.Varint.{number, varint_of}
use Rattle.shortest.specs.Shortest.{encode, shortest}

-- a number, and what is written for it
pub data Row : Type 0 where
  writes : ℕ → List ℕ → Row

unfoldable pub row_again : Row → Row
row_again (writes v s) = writes v (encode v)

abbrev pub rows : List Row
rows =
    writes 0 (0x00 ∷ [])
    ∷ writes 127 (0x7f ∷ [])
    ∷ writes 128 (0x81 ∷ 0x00 ∷ [])
    ∷ writes 16383 (0xff ∷ 0x7f ∷ [])
    ∷ writes 16384 (0x81 ∷ 0x80 ∷ 0x00 ∷ [])
    ∷ writes (2 ^ 56 - 1) (0xff ∷ 0xff ∷ 0xff ∷ 0xff ∷ 0xff ∷ 0xff ∷ 0xff ∷ 0x7f ∷ [])
    ∷ writes (2 ^ 56) (0x80 ∷ 0xc0 ∷ 0x80 ∷ 0x80 ∷ 0x80 ∷ 0x80 ∷ 0x80 ∷ 0x80 ∷ 0x00 ∷ [])
    ∷ writes (2 ^ 64 - 1) (0xff ∷ 0xff ∷ 0xff ∷ 0xff ∷ 0xff ∷ 0xff ∷ 0xff ∷ 0xff ∷ 0xff ∷ [])
    ∷ []

abbrev pub RowsWorked : Type 0
RowsWorked = map row_again rows ≡ rows

-- the largest number of eight bytes, written in nine
abbrev pub spare : List ℕ
spare = 0x80 ∷ 0xbf ∷ 0xff ∷ 0xff ∷ 0xff ∷ 0xff ∷ 0xff ∷ 0xff ∷ 0xff ∷ []

abbrev pub SpareWorked : Type 0
SpareWorked = (varint_of 9 spare ≡ Ok (number (2 ^ 56 - 1) 9)) × (shortest (number (2 ^ 56 - 1) 9) ≡ false)
