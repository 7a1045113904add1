-- What is stored of a type of fixed width that is known to be k.
use Prim.Native.Nat.{ℕ, ◌+◌, ◌<◌}
use mathlib.Core.Path.{◌≡◌, sym, ap, ◌∙◌}
use mathlib.Core.List.{List}
use lib.IntN.{ℤ}
use lib.ListN.{get_or}
use lib.Seq.{sets}
use Rattle.tables.specs.Tables.{widths}
use Rattle.serial.specs.Serial.{width_of}
use Rattle.turns.specs.declared.types.Value.{Value}
use Rattle.turns.specs.Words.{words_of}
use Rattle.checked.specs.Whole.{bytes_in}
use Rattle.manners.specs.declared.Manner.{Manner}
use Rattle.manners.specs.Manners.{value_by}
use Rattle.manners.proofs.Laws.{bytes-as}

pub stored-as : (manner : Manner) (serial at : ℕ) (s : List ℕ) (table : List ℤ) (place : ℕ) {k end : ℕ} {v : Value} {after : List ℤ}
    → serial ≡ k → k < 10 → end ≡ at + get_or widths k 0 → v ≡ value_by manner k at s → after ≡ sets table place (words_of v)
    → record { end : end ≡ at + bytes_in (width_of serial); table : after ≡ sets table place (words_of (value_by manner serial at s)) }
stored-as manner serial at s table place i l e v p =
    record {
      end = e ∙ ap (λ (n : ℕ). at + n) (sym (bytes-as serial i l));
      table = rw i (p ∙ ap (λ u. sets table place (words_of u)) v);
    }
