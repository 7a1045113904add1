-- One reading behind another: what is shown, or why not. So a definition is read straight down, by `do`.
use Rattle.std.specs.Prelude.{Result, Ok, Err}

infixr 1 ◌>>=◌
abbrev pub ◌>>=◌ : {R A B : Type 0} → Result A R → (A → Result B R) → Result B R
◌>>=◌ (Err r) f = Err r
◌>>=◌ (Ok a) f = f a
