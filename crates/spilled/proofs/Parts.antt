-- A cell that was found with a buffer lent is told by its parts.
use mathlib.Core.Path.{◌≡◌, ap}
use Rattle.row.specs.declared.FoundCell.{FoundCell}
use Rattle.spills.specs.declared.Source.{Source}
use Rattle.spilled.specs.declared.FoundIn.{FoundIn}
use Rattle.spilled.specs.Lent.{found_from}

pub found-parts : {f g : FoundCell} {s t : Source} → found_from f s ≡ found_from g t → (f ≡ g) × (s ≡ t)
found-parts {f} {g} {s} {t} e =
    let q : ◌≡◌ {A = FoundIn} (record { found = f; source = s }) (record { found = g; source = t }) = cc in
    (ap (λ x. x.found) q, ap (λ x. x.source) q)
