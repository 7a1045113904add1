-- What a writer was given where a write failed.
use Rattle.std.specs.Prelude.{◌≡◌, ℕ, List, ◌++◌}
use Rattle.std.specs.Io.KnownBytes.{Appends}
use Rattle.std.specs.declared.option.Option.{Option}

-- of the bytes s the first ones
pub record AppendsBeginning (old new : Option (List ℕ)) (s : List ℕ) : Type 0 where
  pub begins : List ℕ
  pub rest : List ℕ
  pub parted : s ≡ begins ++ rest
  pub given : Appends old new begins
