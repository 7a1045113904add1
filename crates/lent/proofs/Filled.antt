-- Laws of a table that is filled entry by entry, for the walks. A store to the first place behind the entries that are there
-- lengthens them by one and takes one place off the rest (`filled_next`); the table's length stays (`filled-length`). So it is of a
-- table that is filled from a place on (`from-0`, `from_next`, `from-length`), and one that is filled from the start of a share on, with
-- no more entries than there is room, is one of which that share is filled (`from-share`).
use mathlib.Core.Path.{◌≡◌, refl, sym, ◌∙◌, ap, subst}
use Prim.Native.Nat.{ℕ, zero, suc, ◌+◌, ◌-◌, ◌<◌, ◌≤◌}
use native.Mathlib.Nat.{not-suc-le-zero, zero-add, suc-add}
use native.Mathlib.Numerals.{add-one}
use native.Mathlib.Omega.{arith}
use mathlib.Core.List.{List, [], ◌∷◌, ◌++◌, append_assoc}
use lib.ListN.{length, set, take, drop, length-append, length-drop, take-append-drop}
use lib.Seq.{length-take-le, drop-drop}
use Rattle.halves.specs.declared.Share.{Share}
use Rattle.halves.specs.Halves.{start_of, room_of, lent_of, within}
use Rattle.table.specs.declared.Entry.{Entry}
use Rattle.table.specs.Entry.{entry_for, entries, filled}
use Rattle.table.proofs.Laws.{entries_none, entries_next, entries-length}
use Rattle.lent.specs.Filling.{filled_from}
use Rattle.answers.specs.declared.Refusal.{Refusal}
use Rattle.page.specs.declared.Open.{Open}
use Rattle.std.specs.Prelude.{Result}

-- a store to the first place behind `front`
stored-behind : (front : List Entry) (e : Entry) (rest : List Entry)
    → 0 < length rest → set (front ++ rest) (length front) e ≡ (front ++ e ∷ []) ++ drop 1 rest
stored-behind [] e [] l = absurd (not-suc-le-zero l)
stored-behind [] e (y ∷ rest) l = refl
stored-behind (x ∷ front) e rest l = ap (λ (zs : List Entry). x ∷ zs) (stored-behind front e rest l)

drop-next : (n : ℕ) (ys : List Entry) → drop 1 (drop n ys) ≡ drop (suc n) ys
drop-next zero ys = refl
drop-next (suc n) [] = refl
drop-next (suc n) (y ∷ ys) = drop-next n ys

some_left : (n : ℕ) (ys : List Entry) → n < length ys → 0 < length (drop n ys)
some_left n ys l = subst (λ (k : ℕ). 0 < k) (sym (length-drop n ys)) (omega (arith, l))

pub filled-0 : (opening : Result Open Refusal) (db : List ℕ) (ys : List Entry) → filled opening db 0 ys ≡ ys
filled-0 opening db ys = ap (λ (zs : List Entry). zs ++ ys) (entries_none opening db)

-- one more store to a table that is filled so far
pub filled_next : (opening : Result Open Refusal) (db : List ℕ) (n : ℕ) (ys : List Entry)
    → n < length ys → set (filled opening db n ys) n (entry_for opening db n) ≡ filled opening db (n + 1) ys
filled_next opening db n ys l =
    ap (λ (k : ℕ). set (filled opening db n ys) k (entry_for opening db n)) (sym (entries-length opening db n))
    ∙ stored-behind (entries opening db n) (entry_for opening db n) (drop n ys) (some_left n ys l)
    ∙ ap (λ (zs : List Entry). (entries opening db n ++ entry_for opening db n ∷ []) ++ zs) (drop-next n ys)
    ∙ ap (λ (zs : List Entry). zs ++ drop (suc n) ys) (sym (entries_next opening db n))
    ∙ ap (λ (k : ℕ). filled opening db k ys) (sym (add-one n))

pub filled-length : (opening : Result Open Refusal) (db : List ℕ) (n : ℕ) (ys : List Entry)
    → n ≤ length ys → length (filled opening db n ys) ≡ length ys
filled-length opening db n ys l =
    length-append (entries opening db n) (drop n ys)
    ∙ joined (length (entries opening db n)) (length (drop n ys)) (entries-length opening db n) (length-drop n ys)
  where
    joined : (a b : ℕ) → a ≡ n → b ≡ length ys - n → a + b ≡ length ys
    joined a b e f = omega (arith, e, f, l)

-- FROM A PLACE ON

-- a store to a place behind `front`
set-behind : (front rest : List Entry) (i : ℕ) (e : Entry) → set (front ++ rest) (length front + i) e ≡ front ++ set rest i e
set-behind [] rest i e = ap (λ (k : ℕ). set rest k e) (zero-add i)
set-behind (x ∷ front) rest i e =
    ap (λ (k : ℕ). set (x ∷ front ++ rest) k e) (suc-add (length front) i)
    ∙ ap (λ (zs : List Entry). x ∷ zs) (set-behind front rest i e)

module _ (from : ℕ) (opening : Result Open Refusal) (db : List ℕ) where
  pub from-0 : (ys : List Entry) → filled_from from opening db 0 ys ≡ ys
  from-0 ys = ap (λ (zs : List Entry). take from ys ++ zs) (filled-0 opening db (drop from ys)) ∙ take-append-drop from ys

  module _ (n : ℕ) (ys : List Entry) where
    front_length : from + n ≤ length ys → length (take from ys) ≡ from
    front_length l = length-take-le from ys (omega (arith, l))

    pub from_next : from + n < length ys → set (filled_from from opening db n ys) (from + n) (entry_for opening db n) ≡ filled_from from opening db (n + 1) ys
    from_next l =
        ap (λ (k : ℕ). set (filled_from from opening db n ys) (k + n) (entry_for opening db n)) (sym (front_length (omega (arith, l))))
        ∙ set-behind (take from ys) (filled opening db n (drop from ys)) n (entry_for opening db n)
        ∙ ap (λ (zs : List Entry). take from ys ++ zs) (filled_next opening db n (drop from ys) (omega (arith, l, length-drop from ys)))

    pub from-length : from + n ≤ length ys → length (filled_from from opening db n ys) ≡ length ys
    from-length l =
        length-append (take from ys) (filled opening db n (drop from ys))
        ∙ omega (arith, l, front_length l, length-drop from ys, filled-length opening db n (drop from ys) (omega (arith, l, length-drop from ys)))

-- a part of a table behind its first n places, and what is behind that part
rest-whole : (n room : ℕ) (ys : List Entry) → n ≤ room → drop n (take room ys) ++ drop room ys ≡ drop n ys
rest-whole zero room ys l = take-append-drop room ys
rest-whole (suc n) zero ys l = absurd (not-suc-le-zero l)
rest-whole (suc n) (suc room) [] l = refl
rest-whole (suc n) (suc room) (y ∷ ys) l = rest-whole n room ys (omega (arith, l))

pub from-share : (share : Share) (opening : Result Open Refusal) (db : List ℕ) (n : ℕ) (ys : List Entry)
    → n ≤ room_of share (length ys) → filled_from (start_of share (length ys)) opening db n ys ≡ within share (filled opening db n) ys
from-share share opening db n ys l =
    let start = start_of share (length ys) in
    let room = room_of share (length ys) in
    ap (λ (zs : List Entry). take start ys ++ (entries opening db n ++ zs)) (sym (rest-whole n room (drop start ys) l))
    ∙ ap (λ (zs : List Entry). take start ys ++ (entries opening db n ++ (drop n (lent_of share ys) ++ zs))) (drop-drop room start ys)
    ∙ ap (λ (zs : List Entry). take start ys ++ zs) (sym (append_assoc (entries opening db n) (drop n (lent_of share ys)) (drop (start + room) ys)))
    ∙ sym (append_assoc (take start ys) (filled opening db n (lent_of share ys)) (drop (start + room) ys))
