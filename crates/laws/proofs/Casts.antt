-- A signed number that fits two widths is the same in both: what a cast between them asks, and what it gives.
use Prim.Native.Nat.{◌^◌, ◌<◌}
use mathlib.Core.Path.{◌≡◌}
use lib.IntN.{ℤ}
use lib.Dec.{T, leb}
use lib.Signed.{mag}
use mir.Syntax.{Width, w64}
use mir.Val.{SFits, to_z, of_z, hbits}
use mir.Facts.{to_z-of_z, sfits_widen}

module _ (w w' : Width) (z : ℤ) (fits : SFits w z) (fits' : SFits w' z) where
  pub cast_fits : SFits w' (to_z w (of_z w z))
  cast_fits = rw (to_z-of_z fits) fits'

  pub cast_same : to_z w' (of_z w' (to_z w (of_z w z))) ≡ z
  cast_same = rw (to_z-of_z fits) (to_z-of_z fits')

-- to 64 bits, which every width fits
module _ (w : Width) (z : ℤ) (fits : mag z < 2 ^ hbits w) (narrower : T (leb (hbits w) 63)) where
  narrow : SFits w z
  narrow = record { sfits = fits }

  wide : SFits w64 z
  wide = sfits_widen {w = w} {w' = w64} narrower narrow

  pub widen-fits : SFits w64 (to_z w (of_z w z))
  widen-fits = cast_fits w w64 z narrow wide

  pub widen-same : to_z w64 (of_z w64 (to_z w (of_z w z))) ≡ z
  widen-same = cast_same w w64 z narrow wide
