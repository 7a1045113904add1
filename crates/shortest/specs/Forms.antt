-- THEOREMS: the shortest form of a varint is read as what it was written for, it is the only form of that length, and no
-- form of the same number is shorter.
use Rattle.std.specs.Prelude.{ℕ, ◌^◌, ◌≤◌, ◌<◌, ◌≡◌, List, ◌++◌, true, false, length, take, get_or, Ok}
use Rattle.varint.specs.declared.Number.{Number}
use Rattle.varint.specs.Varint.{number, varint_of}
use Rattle.shortest.specs.Shortest.{encode, shortest}

abbrev pub Bytes : List ℕ → Type 0
Bytes s = (i : ℕ) → get_or s i 0 < 256

-- the form of v, as a number that was read
abbrev pub written : ℕ → Number
written v = number v (length (encode v))

-- what is written for a number is read as that number, whatever follows, and the old reading of five bytes reads what has
-- no more
abbrev pub ReadAfterWrite : Type 0
ReadAfterWrite = (v : ℕ) (rest : List ℕ) → v < 2 ^ 64
    → (varint_of 9 (encode v ++ rest) ≡ Ok (written v))
    × (length (encode v) ≤ 5 → varint_of 5 (encode v ++ rest) ≡ Ok (written v))

-- what was read and is shortest is, byte by byte, what is written for its value
abbrev pub WriteAfterRead : Type 0
WriteAfterRead = (s : List ℕ) (n : Number) → Bytes s → varint_of 9 s ≡ Ok n → shortest n ≡ true
    → take n.length s ≡ encode n.value

-- two shortest forms of one value are the same bytes, and every value of 64 bits has one
abbrev pub OneShortest : Type 0
OneShortest =
    ((s t : List ℕ) (n m : Number) → Bytes s → Bytes t → varint_of 9 s ≡ Ok n → varint_of 9 t ≡ Ok m → n.value ≡ m.value
    → shortest n ≡ true → shortest m ≡ true → take n.length s ≡ take m.length t)
    × ((v : ℕ) → v < 2 ^ 64 → Bytes (encode v) × (varint_of 9 (encode v) ≡ Ok (written v)) × (shortest (written v) ≡ true))

-- no form of the value is shorter than a shortest one, and what is not shortest has a shorter form: what is written for it
abbrev pub NoShorter : Type 0
NoShorter = (s : List ℕ) (n : Number) → varint_of 9 s ≡ Ok n
    → (shortest n ≡ true → (t : List ℕ) (m : Number) → varint_of 9 t ≡ Ok m → m.value ≡ n.value → n.length ≤ m.length)
    × (shortest n ≡ false → (length (encode n.value) < n.length) × (varint_of 9 (encode n.value) ≡ Ok (written n.value)))

-- one byte is always shortest
abbrev pub OneByte : Type 0
OneByte = (limit : ℕ) (s : List ℕ) (n : Number) → varint_of limit s ≡ Ok n → n.length ≡ 1 → shortest n ≡ true

-- a varint that both readings find is shortest for both or for neither
abbrev pub FiveAsNine : Type 0
FiveAsNine = (s : List ℕ) (n m : Number) → varint_of 5 s ≡ Ok n → varint_of 9 s ≡ Ok m → shortest n ≡ shortest m
