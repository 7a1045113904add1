-- The text of values along a cursor, step by step.
use Prim.Native.Nat.{ℕ, zero, suc, ◌-◌, ◌<◌}
use mathlib.Core.Path.{◌≡◌, refl, sym, ap, subst, ◌∙◌}
use mathlib.Core.List.{List, [], ◌++◌, append_assoc, append-nil}
use native.Mathlib.Omega.{arith}
use Rattle.print.specs.Gathered.{Gathered, HoldsBeginning, puts}
use Rattle.print.proofs.Gathering.{none, on, put_before, put_some}
use Rattle.columns.specs.declared.Cursor.{Cursor}
use Rattle.values.specs.declared.file.Value.{Value}
use Rattle.row_values.specs.File.{valued, next_of}
use Rattle.texts.specs.Row.{value_text, values_text}
use Rattle.std.specs.Prelude.{None}

module _ (c : Cursor) (db : List ℕ) where
  pub values-next : (count : ℕ) (v : Value) (next : Cursor) → 0 < count → next_of c db ≡ valued v next
      → values_text count c db ≡ value_text db v ++ values_text (count - 1) next db
  unfolding values_text
  values-next zero v next h e = absurd (omega arith)
  values-next (suc count) v next h e = let one : suc count - 1 ≡ count = omega arith in rw (e, one)

  pub values-end : (count : ℕ) → next_of c db ≡ None → values_text count c db ≡ []
  unfolding values_text
  values-end zero e = refl
  values-end (suc count) e = rw e

  pub values-none : (count : ℕ) → count ≡ 0 → values_text count c db ≡ []
  unfolding values_text
  values-none zero e = refl
  values-none (suc count) e = absurd (omega arith)

-- WHAT IS PUT SO FAR: some of a whole, the first of it, and a rest is to come

pub record PutSoFar (whole rest : List ℕ) (x y : Gathered) : Type 0 where
  pub begins : List ℕ
  pub parted : whole ≡ begins ++ rest
  pub put_first : y ≡ puts begins x

pub at_first : (whole : List ℕ) (x : Gathered) → PutSoFar whole whole x x
at_first whole x = record { begins = []; parted = refl; put_first = none x }

module _ (whole : List ℕ) (x y : Gathered) where
  pub one_more : (s t rest : List ℕ) (z : Gathered) → s ≡ t ++ rest → PutSoFar whole s x y → z ≡ puts t y → PutSoFar whole rest x z
  one_more s t rest z e h f =
      record {
        begins = h.begins ++ t;
        parted = h.parted ∙ ap (λ l. h.begins ++ l) e ∙ sym (append_assoc h.begins t rest);
        put_first = on h.begins t x y z h.put_first f;
      }

  pub all_put : (s : List ℕ) → s ≡ [] → PutSoFar whole s x y → y ≡ puts whole x
  all_put s e h = h.put_first ∙ ap (λ l. puts l x) (sym (h.parted ∙ ap (λ l. h.begins ++ l) e ∙ append-nil h.begins))

  pub stopped : (s t rest held : List ℕ) → s ≡ t ++ rest → PutSoFar whole s x y → HoldsBeginning t y held → HoldsBeginning whole x held
  stopped s t rest held e h b =
      let parted : (h.begins ++ t) ++ rest ≡ whole = append_assoc h.begins t rest ∙ ap (λ l. h.begins ++ l) (sym e) ∙ sym h.parted in
      subst (λ l. HoldsBeginning l x held) parted (put_some (h.begins ++ t) rest x held (put_before h.begins t x y held h.put_first b))
