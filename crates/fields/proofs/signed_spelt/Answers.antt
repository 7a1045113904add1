-- The table's rule, that twice a top bit is the number of patterns, turns the field's number into two's complement.
use Prim.Native.Nat.{ℕ, suc, ◌-◌, ◌*◌, ◌^◌, ◌≤◌, ◌<◌}
use mathlib.Core.Path.{◌≡◌, ◌∙◌}
use mathlib.Core.List.{List, [], ◌∷◌}
use mathlib.Core.Bool.{Bool}
use native.Mathlib.Nat.{pow-le-pow_right}
use native.Mathlib.Omega.{arith}
use lib.Dec.{eqb, eqb→eq, lit<}
use lib.ListN.{get_or}
use lib.IntN.{ℤ}
use lib.Signed.{mag}
use mir.Syntax.{w64}
use mir.Facts.{to_z-of_z}
use Rattle.laws.proofs.Table.{at}
use Rattle.fields.specs.Fields.{twos, unsigned, signed}
use Rattle.fields.proofs.signed_spelt.Goals as goal

-- the code's table, entry for entry
tops : List ℕ
tops =
    0x80 ∷ 0x8000 ∷ 0x80_0000 ∷ 0x8000_0000 ∷ 0x80_0000_0000 ∷ 0x8000_0000_0000 ∷ 0x80_0000_0000_0000 ∷ 0x8000_0000_0000_0000 ∷ []

half : ℕ → ℕ → Bool
half k top = eqb (2 * top) (256 ^ suc k)

module _ (w : ℕ) (l : 1 ≤ w) (h : w ≤ 8) where
  top : ℕ
  top = get_or tops (w - 1) 0

  twice : 2 * top ≡ 256 ^ w
  unfolding tops half top
  twice =
      let e : suc (w - 1) ≡ w = omega arith in
      eqb→eq (2 * get_or tops (w - 1) 0) (256 ^ suc (w - 1)) (at half tops tt (w - 1) (omega arith)) ∙ rw e

  fits : {v : ℕ} → v < 256 ^ w → (v < 2 * top) × (top ≤ 2 ^ 63)
  fits p =
      let m : 256 ^ w ≤ 256 ^ 8 = pow-le-pow_right (lit< tt) {i = w} {j = 8} h in
      (rw twice p, omega (arith, twice))

  turned : {v : ℕ} {z : ℤ} (s : List ℕ) → v ≡ unsigned w s → z ≡ twos (2 * top) v → mag z < top
      → (z ≡ signed w s) × (2 * mag z < 256 ^ w)
  turned s p q m = (q ∙ rw (twice, p), omega (arith, twice))

pub from_twos-requires : goal.from_twos-requires
unfolding tops top
from_twos-requires c =
    let r = c.requires in
    let fit = fits c.args.width r.some r.at_most c.spelt.ensures.bound in
    record { within = fit.0; at_most = fit.1 }

pub returns : goal.returns
unfolding tops top
returns c =
    let a = c.args in
    let f = c.from_twos in
    let told = turned a.width c.requires.some c.requires.at_most a.part.now c.spelt.ensures.value f.ensures.value f.ensures.bound in
    rw (to_z-of_z {w = w64} (record { sfits = f.type_inv })) (record { value = told.0; bound = told.1 })
