-- A screenful comes out as it was worked when the definitions are computed.
use mathlib.Core.Path.{refl}
use Rattle.fields.specs.Fields.{twos}
use Rattle.addresses.specs.Rows.{AnswersWorked, CountsWorked}

pub answers-worked : AnswersWorked
unfolding twos
answers-worked = refl

pub counts-worked : CountsWorked
counts-worked = (refl, refl)
