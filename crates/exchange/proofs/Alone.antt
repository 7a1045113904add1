-- The theorem, call by call: an own call is the page call on its half, and a call of the other truck leaves the half as it was.
use mathlib.Core.Path.{refl, ap, ◌∙◌}
use mathlib.Core.List.{[], ◌∷◌}
use Rattle.halves.specs.declared.Share.TheVariants.{First, Second}
use Rattle.exchange.specs.Run.{one, two, asks, left, own, alone}
use Rattle.exchange.specs.Alone.{OwnAlone}
use Rattle.exchange.proofs.Halves.{left-own, first-kept, second-kept}

pub own_alone : OwnAlone
own_alone t [] ys = refl
own_alone one (asks one page db ∷ calls) ys =
    own_alone one calls (left (asks one page db) ys) ∙ ap (alone (own one calls)) (left-own page db ys First)
own_alone one (asks two page db ∷ calls) ys =
    own_alone one calls (left (asks two page db) ys) ∙ ap (alone (own one calls)) (first-kept page db ys)
own_alone two (asks one page db ∷ calls) ys =
    own_alone two calls (left (asks one page db) ys) ∙ ap (alone (own two calls)) (second-kept page db ys)
own_alone two (asks two page db ∷ calls) ys =
    own_alone two calls (left (asks two page db) ys) ∙ ap (alone (own two calls)) (left-own page db ys Second)
