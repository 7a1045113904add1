-- The theorem, call by call.
use mathlib.Core.Path.{refl, ◌∙◌}
use mathlib.Core.List.{[], ◌∷◌}
use Rattle.exchange.specs.Run.{one, two, asks, left}
use Rattle.exchange.specs.Behind.{BehindKept}
use Rattle.exchange.proofs.Halves.{first-behind, second-behind}

pub behind-kept : BehindKept
behind-kept [] ys = refl
behind-kept (asks one page db ∷ calls) ys = behind-kept calls (left (asks one page db) ys) ∙ first-behind page db ys
behind-kept (asks two page db ∷ calls) ys = behind-kept calls (left (asks two page db) ys) ∙ second-behind page db ys
