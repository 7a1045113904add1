-- Output that is gathered in a buffer. What goes to the system is in no contract; what the buffer holds then, and how many
-- bytes wait in it, is.
use Rattle.std.specs.Prelude.{◌≡◌, ℕ, ◌+◌, List, [], ◌∷◌, ◌++◌, ltb, length, set}
use Rattle.laws.specs.Pick.{pick}

-- a buffer, and how many bytes wait at its start
pub record Gathered : Type 0 where
  pub held : List ℕ
  pub waits : ℕ

abbrev pub gathered : List ℕ → ℕ → Gathered
gathered held waits = record { held = held; waits = waits }

-- a byte takes the place behind those that wait; where there is none, they are written, and it is the first
abbrev pub put : ℕ → Gathered → Gathered
put b x =
    pick (ltb x.waits (length x.held)) (gathered (set x.held x.waits b) (x.waits + 1))
    (pick (ltb 0 (length x.held)) (gathered (set x.held 0 b) 1)
    (gathered x.held 0))

-- byte by byte
unfoldable pub puts : List ℕ → Gathered → Gathered
puts [] x = x
puts (b ∷ s) x = puts s (put b x)

-- what is held where a write failed: some of the bytes were put, the first ones
pub record HoldsBeginning (s : List ℕ) (x : Gathered) (held : List ℕ) : Type 0 where
  pub begins : List ℕ
  pub rest : List ℕ
  pub parted : s ≡ begins ++ rest
  pub put_first : held ≡ (puts begins x).held
