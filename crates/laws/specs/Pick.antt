-- The choice between two things by a test. Every definition that goes by a test on numbers is written with it, so that
-- a proof answers a branch of the code by the test's own law.
use Rattle.std.specs.Prelude.{Bool, true, false}

abbrev pub pick : {A : Type 0} → Bool → A → A → A
pick true a b = a
pick false a b = b
