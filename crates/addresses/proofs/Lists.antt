-- The list of answers while it is filled: with the answers that are still to come it is what it is to be in the end.
use Prim.Native.Nat.{ℕ, suc, ◌+◌, ◌*◌, ◌/◌, ◌≤◌, ◌<◌}
use mathlib.Core.Path.{◌≡◌, refl, sym, ap, ◌∙◌}
use mathlib.Core.Bool.{Bool, true, false}
use mathlib.Core.List.{List, [], ◌∷◌}
use native.Mathlib.Omega.{arith}
use lib.Dec.{ltb, eqb}
use lib.IntN.{ℤ}
use lib.ListN.{length, drop, length-drop}
use lib.Seq.{sets, sets-eq, length-sets, drop-cons}
use borrow.Author.Tests.{lt-ltb, eq-eqb, ltb-true, eqb-true}
use Rattle.laws.specs.Pick.{pick}
use Rattle.laws.proofs.Never.{never}
use Rattle.laws.proofs.Stores.{sets-on}
use Rattle.turns.specs.declared.types.Shown.{Shown}
use Rattle.turns.specs.Words.{shown_words}
use Rattle.addresses.specs.Screen.{Address, address, addresses_in, words_by, answered_by}
use Rattle.addresses.specs.Turns.{named_page, named_cell, named_column, same_cell, rest, Turn}

-- THE ADDRESSES

abbrev pub address_at : ℕ → List ℕ → Address
address_at i addresses = address (named_page i addresses) (named_cell i addresses) (named_column i addresses)

addresses-next : (addresses : List ℕ) (i : ℕ) → 3 * i + 3 ≤ length addresses
    → addresses_in (drop (3 * i) addresses) ≡ address_at i addresses ∷ addresses_in (drop (3 * (i + 1)) addresses)
addresses-next addresses i h =
    let one : suc (3 * i) ≡ 3 * i + 1 = omega arith in
    let two : suc (3 * i + 1) ≡ 3 * i + 2 = omega arith in
    let three : suc (3 * i + 2) ≡ 3 * (i + 1) = omega arith in
    let first = drop-cons addresses (3 * i) 0 (omega arith) in
    let second = drop-cons addresses (3 * i + 1) 0 (omega arith) in
    let third = drop-cons addresses (3 * i + 2) 0 (omega arith) in
    rw (first, one, second, two, third, three)

-- fewer words than an address has are none
few : (words : List ℕ) → length words < 3 → addresses_in words ≡ []
few [] h = refl
few (p ∷ []) h = refl
few (p ∷ i ∷ []) h = refl
few (p ∷ i ∷ k ∷ words) h = absurd (omega arith)

addresses-end : (addresses : List ℕ) (count : ℕ) → count ≡ length addresses / 3 → addresses_in (drop (3 * count) addresses) ≡ []
addresses-end addresses count e = few (drop (3 * count) addresses) (rw (length-drop (3 * count) addresses) (omega (arith, e)))

-- eight words an answer
words-length : (f : Address → Shown) (list : List Address) → length (words_by f list) ≡ 8 * length list
words-length f [] = refl
words-length f (a ∷ list) = let e = words-length f list in omega arith

addresses-counted : (addresses : List ℕ) → length (addresses_in addresses) ≡ length addresses / 3
addresses-counted [] = refl
addresses-counted (p ∷ []) = refl
addresses-counted (p ∷ i ∷ []) = refl
addresses-counted (p ∷ i ∷ k ∷ addresses) = let e = addresses-counted addresses in omega arith

-- THE ANSWERS

module _ (f : Address → Shown) (addresses : List ℕ) where
  -- one more is stored
  pub rest-next : (i : ℕ) (answers : List ℤ) {shown : Shown} → 3 * i + 3 ≤ length addresses → shown ≡ f (address_at i addresses)
      → rest f addresses (i + 1) (sets answers (8 * i) (shown_words shown)) ≡ rest f addresses i answers
  rest-next i answers {shown} h e =
      let place : 8 * i + 8 ≡ 8 * (i + 1) = omega arith in
      rw (addresses-next addresses i h, ← e)
      (sym (sets-on (shown_words shown) (words_by f (addresses_in (drop (3 * (i + 1)) addresses))) answers (8 * i) ∙ rw place refl))

  -- none is yet
  pub rest_all : (answers : List ℤ) → 8 * (length addresses / 3) ≤ length answers
      → rest f addresses 0 answers ≡ answered_by f addresses answers
  rest_all answers h =
      let n : length (words_by f (addresses_in addresses)) ≡ 8 * (length addresses / 3) = words-length f (addresses_in addresses) ∙ ap (λ (k : ℕ). 8 * k) (addresses-counted addresses) in
      let m : 0 + length (words_by f (addresses_in addresses)) ≡ 8 * (length addresses / 3) = omega arith in
      sets-eq (words_by f (addresses_in addresses)) answers 0 (omega arith) ∙ rw m

  -- all are
  pub rest_end : (count : ℕ) (answers : List ℤ) → count ≡ length addresses / 3 → rest f addresses count answers ≡ answers
  rest_end count answers e = rw (addresses-end addresses count e)

-- THE TURNS OF A LOOP from address `at` on

-- it has come to address i
pub record Going (Must : (Address → Shown) → Type 0) (count : ℕ) (addresses : List ℕ) (at i : ℕ) (lent answers : List ℤ) : Type 0 where
  pub on : at ≤ i
  pub within : i < count
  pub long : length answers ≡ length lent
  pub is : (f : Address → Shown) → Must f → rest f addresses i answers ≡ rest f addresses at lent

module _ {Must : (Address → Shown) → Type 0} {count : ℕ} {addresses : List ℕ} {at : ℕ} {lent : List ℤ} where
  pub going-first : at < count → Going Must count addresses at at lent lent
  going-first l = record { on = omega arith; within = l; long = refl; is = λ f must. refl }

  module _ {i : ℕ} {answers : List ℤ} (t : Going Must count addresses at i lent answers) where
    -- one answer more
    pub going-stored : 3 * count ≤ length addresses → {after : List ℤ} {shown : Shown} → after ≡ sets answers (8 * i) (shown_words shown)
        → ((f : Address → Shown) → Must f → shown ≡ f (address_at i addresses)) → Turn Must count addresses at (i + 1) lent after
    going-stored room {after} {shown} s e =
        rw s
        (record {
          on = omega (arith, t.on);
          within = omega (arith, t.within);
          long = length-sets answers (8 * i) (shown_words shown) ∙ t.long;
          is = λ f must. rest-next f addresses i answers (omega (arith, t.within)) (e f must) ∙ t.is f must;
        })

    -- some more, by a turn of their own
    pub going-turned : {Own : (Address → Shown) → Type 0} {next : ℕ} {after : List ℤ} → Turn Own count addresses i next answers after
        → ((f : Address → Shown) → Must f → Own f) → Turn Must count addresses at next lent after
    going-turned u h =
        record {
          on = omega (arith, t.on, u.on);
          within = u.within;
          long = u.long ∙ t.long;
          is = λ f must. u.is f (h f must) ∙ t.is f must;
        }

  -- and on
  pub going_on : {next : ℕ} {answers : List ℤ} → Turn Must count addresses at next lent answers → next < count → Going Must count addresses at next lent answers
  going_on u l = record { on = omega (arith, u.on); within = l; long = u.long; is = u.is }

-- THE SAME CELL

pub record Same (addresses : List ℕ) (count i at : ℕ) : Type 0 where
  pub there : i < count
  pub page : named_page i addresses ≡ named_page at addresses
  pub cell : named_cell i addresses ≡ named_cell at addresses

pub same-cell : (addresses : List ℕ) (count i at : ℕ) → same_cell addresses count i at ≡ true → Same addresses count i at
same-cell addresses count i at e = go (ltb i count) refl (eqb (named_page i addresses) (named_page at addresses)) refl (eqb (named_cell i addresses) (named_cell at addresses)) refl e
  where
    go : (a : Bool) → ltb i count ≡ a → (b : Bool) → eqb (named_page i addresses) (named_page at addresses) ≡ b → (c : Bool) → eqb (named_cell i addresses) (named_cell at addresses) ≡ c
        → pick a (pick b c false) false ≡ true → Same addresses count i at
    go false x b y c z e = never cc
    go true x false y c z e = never cc
    go true x true y false z e = never cc
    go true x true y true z e = record { there = ltb-true i count x; page = eqb-true _ _ y; cell = eqb-true _ _ z }

-- as the code comes to it, where there is an address i that names the same page
pub same-told : (addresses : List ℕ) (count i at : ℕ) {page page' cell cell' : ℕ} → i < count → page ≡ named_page i addresses → page' ≡ named_page at addresses → page ≡ page'
    → cell ≡ named_cell i addresses → cell' ≡ named_cell at addresses → eqb cell cell' ≡ same_cell addresses count i at
same-told addresses count i at l p p' e c c' = rw (c, c', lt-ltb i count l, eq-eqb (named_page i addresses) (named_page at addresses) (sym p ∙ e ∙ p'))

pub same_first : (addresses : List ℕ) (count at : ℕ) → at < count → Same addresses count at at
same_first addresses count at l = record { there = l; page = refl; cell = refl }

-- the address of another column of it
pub same_address : {addresses : List ℕ} {count i at : ℕ} → Same addresses count i at
    → address_at i addresses ≡ address (named_page at addresses) (named_cell at addresses) (named_column i addresses)
same_address {addresses} {count} {i} {at} s = rw (s.page, s.cell)
