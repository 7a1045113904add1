-- What the short way says of types, and how their values lie: what the plain form makes of the same bytes, or nothing. None of
-- it is to be believed: it is what the functions on the way promise each other.
use Rattle.std.specs.Prelude.{ℕ, ◌≤◌, ◌<◌, ◌≡◌, ◌⊎◌, List, Bool, true, false, None, Option, Some}
use Rattle.serial.specs.Serial.{width_of}
use Rattle.record.specs.declared.Laid.TheVariants.{Ends}
use Rattle.record.specs.Types.{Types, types_of, walk}
use Rattle.marks.specs.Marks.{some, long_type, stored_one, empty_value}
use Rattle.layout.specs.declared.Layout.{Layout}

-- so many columns, and so many bytes left over
abbrev pub laid_out : ℕ → ℕ → Option Layout
laid_out columns left = Some (record { columns = columns; left = left })

-- a type of one byte with its width: neither the barred one, nor a text or a blob below the least
pub record Usual (serial barred least w : ℕ) : Type 0 where
  pub byte : serial < 128
  pub has : width_of serial ≡ Some w
  pub other : serial ≡ barred → ⊥
  pub sort : (serial < 10) ⊎ (least ≤ serial)

abbrev pub Wide : ℕ → ℕ → ℕ → Option ℕ → Type 0
Wide serial barred least None = Unit {0}
Wide serial barred least (Some w) = Usual serial barred least w

-- types with no mark
pub record Clean (ts : Types) : Type 0 where
  pub long : some long_type ts ≡ false
  pub one : some stored_one ts ≡ false
  pub empty : some empty_value ts ≡ false

abbrev pub Lying : Bool → ℕ → Types → Option Layout → Type 0
Lying g room ts None = Unit {0}
Lying g room ts (Some lay) = (walk 0 room ts ≡ Ends lay.columns lay.left) × (g ≡ true → Clean ts)

-- whatever the limit of a varint is
abbrev pub LyingAs : Bool → ℕ → List ℕ → Option Layout → Type 0
LyingAs g room t x = (k : ℕ) → 1 ≤ k → Lying g room (types_of k t) x
