-- What a reader gave where a later read of it failed.
use Rattle.std.specs.Prelude.{ℕ, List, take}
use Rattle.std.specs.Io.KnownBytes.{Consumes}
use Rattle.std.specs.declared.option.Option.{Option}

-- the first bytes of the buffer, so many as are counted, are those that it gave
pub record TakesFirst (old new : Option (List ℕ)) (buf : List ℕ) : Type 0 where
  pub count : ℕ
  pub taken : Consumes old new (take count buf)
