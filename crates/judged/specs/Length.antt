-- THEOREM: a payload that is gathered has as many bytes as its cell says, and they fit the buffer.
use Rattle.std.specs.Prelude.{ℕ, ◌≤◌, ◌≡◌, List, length, Ok}
use Rattle.page.specs.declared.Open.{Open}
use Rattle.chain.specs.Gathered.{Gathered, gathered_in}

abbrev pub AsLongAsSaid : Type 0
AsLongAsSaid = (o : Open) (i room : ℕ) (db : List ℕ) (g : Gathered) → gathered_in o i room db ≡ Ok g
    → (g.numbers.size.value ≤ room) × (length g.payload ≡ g.numbers.size.value)
