-- A varint that is found, taken apart once: every law on varints is then a recursion on `Reads`.
use Prim.Native.Nat.{ℕ, zero, suc, ◌+◌, ◌*◌, ◌%◌, ◌≤◌, ◌<◌}
use mathlib.Core.Path.{◌≡◌, refl}
use mathlib.Core.List.{List, [], ◌∷◌}
use mathlib.Core.Bool.{Bool, true, false}
use native.Mathlib.Omega.{arith}
use lib.Dec.{ltb, eqb}
use borrow.Author.Tests.{ltb-true, ltb-false, eqb-true, eqb-false, lt-ltb, le-ltb, eq-eqb, ne_eqb}
use Rattle.varint.specs.declared.Number.{Number}
use Rattle.varint.specs.declared.Cause.{Cause}
use Rattle.varint.specs.Varint.{number, scan}
use Rattle.std.specs.Prelude.{Err, Ok, Result}

-- `scan k n v s` finds the number x
pub data Reads (x : Number) : ℕ → ℕ → ℕ → List ℕ → Type 0 where
  ninth : {k n v b : ℕ} {s : List ℕ} → n ≡ 8 → number (v * 256 + b) 9 ≡ x → Reads x (suc k) n v (b ∷ s)
  last : {k n v b : ℕ} {s : List ℕ} → (n ≡ 8 → ⊥) → b < 128 → number (v * 128 + b) (n + 1) ≡ x → Reads x (suc k) n v (b ∷ s)
  next : {k n v b : ℕ} {s : List ℕ} → (n ≡ 8 → ⊥) → 128 ≤ b → Reads x k (n + 1) (v * 128 + b % 128) s
      → Reads x (suc k) n v (b ∷ s)

no : {A : Type 0} {c : Cause} {x : Number} → Err c ≡ Ok x → A
no p = let z : ◌≡◌ {A = ℕ} 0 1 = cc in absurd (omega arith)

pub found : (k n v : ℕ) (s : List ℕ) {x : Number} → scan k n v s ≡ Ok x → Reads x k n v s
unfolding scan
found zero n v s e = no e
found (suc k) n v [] e = no e
found (suc k) n v (b ∷ s) {x} e = go (eqb n 8) (ltb b 128) refl refl (found k (n + 1) (v * 128 + b % 128) s) e
  where
    rest : Result Number Cause
    rest = scan k (n + 1) (v * 128 + b % 128) s

    go : (p q : Bool) → eqb n 8 ≡ p → ltb b 128 ≡ q → (rest ≡ Ok x → Reads x k (n + 1) (v * 128 + b % 128) s)
        → ◌≡◌ {A = Result Number Cause} (elim p [ true ↦ Ok (number (v * 256 + b) 9) | false ↦ elim q [ true ↦ Ok (number (v * 128 + b) (n + 1)) | false ↦ rest ] ]) (Ok x)
        → Reads x (suc k) n v (b ∷ s)
    go true q p≡ q≡ ih d = let e : number (v * 256 + b) 9 ≡ x = cc in ninth (eqb-true n 8 p≡) e
    go false true p≡ q≡ ih d = let e : number (v * 128 + b) (n + 1) ≡ x = cc in last (eqb-false n 8 p≡) (ltb-true b 128 q≡) e
    go false false p≡ q≡ ih d = next (eqb-false n 8 p≡) (ltb-false b 128 q≡) (ih d)

pub is_found : {x : Number} {k n v : ℕ} {s : List ℕ} → Reads x k n v s → scan k n v s ≡ Ok x
unfolding scan
is_found (ninth {k} {n} {v} {b} h p) = simp (scan, eq-eqb n 8 h) (cc)
is_found (last {k} {n} {v} {b} h l p) = simp (scan, ne_eqb n 8 h, lt-ltb b 128 l) (cc)
is_found (next {k} {n} {v} {b} h l r) = simp (scan, ne_eqb n 8 h, le-ltb b 128 l) (is_found r)
