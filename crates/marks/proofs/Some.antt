-- Looking for a type along a record's types: what `||` comes to, in the code and in the definitions.
use Prim.Native.Nat.{ℕ}
use mathlib.Core.Path.{◌≡◌, refl, sym, ap, ◌∙◌}
use mathlib.Core.Bool.{Bool, true, false, ◌||◌}
use mathlib.Core.Logic.{◌⊎◌, inl, inr}
use Rattle.varint.specs.declared.Number.{Number}
use Rattle.record.specs.Types.{Types, column}
use Rattle.marks.specs.Marks.{some, long_type, stored_one, empty_value, long_varint, lowest_by, lowest}
use Rattle.answers.specs.declared.Mark.{Mark}
use Rattle.std.specs.Prelude.{Option}

-- two ways to one answer: the first test held, or it did not and the second told
pub either : {A B : Type 0} (x y r : Bool) → ◌⊎◌ (A × (r ≡ x)) (B × (r ≡ y)) → (A → x ≡ true) → (B → x ≡ false) → r ≡ (x || y)
either x y r (inl p) held failed = p.1 ∙ rw (held p.0)
either x y r (inr p) held failed = p.1 ∙ rw (failed p.0)

pub or_assoc : (a b c : Bool) → ((a || b) || c) ≡ (a || (b || c))
or_assoc true b c = refl
or_assoc false b c = refl

-- one type further: found before, or of this type, or behind it
pub some_next : (f : Number → Bool) (before now whole : Bool) {t : Number} {ts rest : Types} → now ≡ (before || f t) → ts ≡ column t rest
    → (before || some f ts) ≡ whole → (now || some f rest) ≡ whole
some_next f before now whole {t} {ts} {rest} e i h =
    ap (λ (b : Bool). b || some f rest) e ∙ or_assoc before (f t) (some f rest) ∙ sym (ap (λ (x : Types). before || some f x) i) ∙ h

last : (f : Number → Bool) (before whole : Bool) (ts : Types) → some f ts ≡ false → (before || some f ts) ≡ whole → before ≡ whole
last f true whole ts e h = h
last f false whole ts e h = sym e ∙ h

-- where no type is left, the lowest of what was found is that of the record
pub lowest-found : (np nv own : ℕ) (ts rest : Types) (is_long is_one is_empty : Bool) {r : Option Mark} → r ≡ lowest_by is_long own is_one is_empty
    → ((f : Number → Bool) → some f rest ≡ false) → (is_long || some long_type rest) ≡ long_varint np nv own ts
    → (is_one || some stored_one rest) ≡ some stored_one ts → (is_empty || some empty_value rest) ≡ some empty_value ts → r ≡ lowest np nv own ts
unfolding lowest
lowest-found np nv own ts rest is_long is_one is_empty e none i j k =
    let a = last long_type is_long (long_varint np nv own ts) rest (none long_type) i in
    let b = last stored_one is_one (some stored_one ts) rest (none stored_one) j in
    let c = last empty_value is_empty (some empty_value ts) rest (none empty_value) k in
    e ∙ rw (a, b, c)
