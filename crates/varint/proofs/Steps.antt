-- One byte of a varint at a place of the list, as a reader meets it.
use Prim.Native.Nat.{ℕ, suc, ◌+◌, ◌-◌, ◌*◌, ◌%◌, ◌≤◌, ◌<◌}
use mathlib.Core.Path.{◌≡◌, ◌∙◌}
use mathlib.Core.List.{List, ◌∷◌}
use native.Mathlib.Numerals.{add-one}
use native.Mathlib.Omega.{arith}
use lib.ListN.{length, drop, get_or, drop_of_length-le}
use lib.Seq.{drop-cons}
use borrow.Author.Tests.{lt-ltb, le-ltb, eq-eqb, ne_eqb}
use Rattle.varint.specs.declared.Cause.TheVariants.{CutShort, WithoutEnd}
use Rattle.varint.specs.Varint.{number, scan}
use Rattle.std.specs.Prelude.{Err, Ok}

-- of at most `limit` bytes of s, i are read and give v
module _ (limit : ℕ) (s : List ℕ) (i v : ℕ) where
  pub at-limit : limit ≤ i → scan (limit - i) i v (drop i s) ≡ Err WithoutEnd
  unfolding scan
  at-limit h = let e : limit - i ≡ 0 = omega arith in rw e

  module _ (l : i < limit) where
    more : limit - i ≡ suc (limit - (i + 1))
    more = omega arith

    pub at-end : length s ≤ i → scan (limit - i) i v (drop i s) ≡ Err CutShort
    unfolding scan
    at-end h = rw (more, drop_of_length-le s h)

    module _ (b : i < length s) where
      at_byte : scan (limit - i) i v (drop i s) ≡ scan (suc (limit - (i + 1))) i v (get_or s i 0 ∷ drop (i + 1) s)
      at_byte = rw (more, add-one, drop-cons s i 0)

      pub ninth : i ≡ 8 → scan (limit - i) i v (drop i s) ≡ Ok (number (v * 256 + get_or s i 0) 9)
      unfolding scan
      ninth h = at_byte ∙ simp (scan, eq-eqb i 8 h)

      pub last : (i ≡ 8 → ⊥) → get_or s i 0 < 128 → scan (limit - i) i v (drop i s) ≡ Ok (number (v * 128 + get_or s i 0) (i + 1))
      unfolding scan
      last h k = at_byte ∙ simp (scan, ne_eqb i 8 h, lt-ltb (get_or s i 0) 128 k)

      pub step : (i ≡ 8 → ⊥) → 128 ≤ get_or s i 0
          → scan (limit - i) i v (drop i s) ≡ scan (limit - (i + 1)) (i + 1) (v * 128 + get_or s i 0 % 128) (drop (i + 1) s)
      unfolding scan
      step h k = at_byte ∙ simp (scan, ne_eqb i 8 h, le-ltb (get_or s i 0) 128 k)
