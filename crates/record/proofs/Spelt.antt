-- The types that some bytes hold, taken apart once: a law about them is then a recursion on `Spelt`.
use Prim.Native.Nat.{ℕ, zero, suc, ◌≤◌, ◌<◌}
use mathlib.Core.Path.{◌≡◌, refl}
use mathlib.Core.List.{List, [], ◌∷◌}
use native.Mathlib.Nat.{le_of_eq}
use native.Mathlib.Omega.{arith}
use lib.ListN.{length, drop, length-drop}
use Rattle.varint.specs.declared.Number.{Number}
use Rattle.varint.specs.declared.Cause.{Cause}
use Rattle.varint.specs.Varint.{varint_of}
use Rattle.varint.proofs.Laws.{length-bounds}
use Rattle.record.specs.Types.{Types, done, broken, column, types_of}
use Rattle.record.proofs.Laws.{types-nil, types-next, types-broken}
use Rattle.std.specs.Prelude.{Err, Ok, Result}

-- s holds these types: none, none that ends, or one and those behind it
pub data Spelt (limit : ℕ) : List ℕ → Types → Type 0 where
  ended : Spelt limit [] done
  stopped : {s : List ℕ} {c : Cause} → 0 < length s → varint_of limit s ≡ Err c → Spelt limit s broken
  further : {s : List ℕ} {t : Number} {rest : Types} → varint_of limit s ≡ Ok t → Spelt limit (drop t.length s) rest
      → Spelt limit s (column t rest)

within : (limit most : ℕ) (s : List ℕ) → length s ≤ most → Spelt limit s (types_of limit s)
within limit zero [] l = rw (types-nil limit) ended
within limit zero (b ∷ s) l = absurd (omega arith)
within limit (suc most) [] l = rw (types-nil limit) ended
within limit (suc most) (b ∷ s) l = go (varint_of limit (b ∷ s)) refl (λ m k. within limit most (drop m (b ∷ s)) k)
  where
    go : (v : Result Number Cause) → varint_of limit (b ∷ s) ≡ v
        → ((m : ℕ) → length (drop m (b ∷ s)) ≤ most → Spelt limit (drop m (b ∷ s)) (types_of limit (drop m (b ∷ s))))
        → Spelt limit (b ∷ s) (types_of limit (b ∷ s))
    go (Err c) e ih = let l : 0 < length (b ∷ s) = omega arith in rw (types-broken limit (b ∷ s) l e) (stopped l e)
    go (Ok t) e ih =
        let w = length-bounds (b ∷ s) limit e in
        rw (types-next limit (b ∷ s) e) (further e (ih t.length (rw length-drop (omega arith))))

pub spelt : (limit : ℕ) (s : List ℕ) → Spelt limit s (types_of limit s)
spelt limit s = within limit (length s) s (le_of_eq refl)
