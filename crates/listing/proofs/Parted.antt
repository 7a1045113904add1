-- A table of which a row is refused: the list is too short for it, or the row's refusal is told.
use Prim.Native.Nat.{ℕ, ◌≤◌, ◌<◌}
use mathlib.Core.Path.{◌≡◌}
use borrow.Author.Tests.{lt-ltb, le-ltb}
use Rattle.answers.specs.declared.Refusal.{Refusal}
use Rattle.trust.specs.declared.Trust.{Trust}
use Rattle.trust.specs.declared.Trust.TheVariants.{Parts}
use Rattle.listing.specs.Listed.{too_short, trusted_by}
use Rattle.std.specs.Prelude.{Err, Ok, Result}

module _ (places root : ℕ) {t : Result Trust Refusal} {n : ℕ} {refusal : Refusal} (e : t ≡ Ok (Parts n refusal)) where
  pub parted-short : places < n → trusted_by places root t ≡ too_short root
  parted-short h = rw (e, lt-ltb places n h)

  pub parted-told : n ≤ places → trusted_by places root t ≡ Err refusal
  parted-told h = rw (e, le-ltb places n h)
