-- The tables of what spills come out as they stand when the definitions are computed.
use mathlib.Core.Path.{refl}
use Rattle.fields.specs.Fields.{be}
use Rattle.place.specs.Place.{place_of}
use Rattle.kept.specs.Kept.{kept_of, links_of}
use Rattle.links.specs.Links.{chain_of}
use Rattle.examples.specs.Chains.{cut_again, CutsWorked, chain_again, ChainsWorked}

pub cuts-worked : CutsWorked
unfolding cut_again kept_of links_of
cuts-worked = refl

pub chains-worked : ChainsWorked
unfolding chain_again chain_of place_of be
chains-worked = refl
