-- How the code goes along the addresses: what its loops ask and keep. Nothing of it is in what the call promises.
use Rattle.std.specs.Prelude.{ℕ, ◌+◌, ◌*◌, ◌%◌, ◌^◌, ◌≤◌, ◌<◌, ◌≡◌, List, Bool, false, ltb, eqb, ℤ, length, drop, get_or}
use Rattle.std.proofs.lemmas.List.Edits.{sets}
use Rattle.laws.specs.Pick.{pick}
use Rattle.turns.specs.declared.types.Shown.{Shown}
use Rattle.chosen.specs.declared.Chosen.{Chosen}
use Rattle.addresses.specs.Screen.{Address, address, addresses_in, answer_to, words_by}

-- THE LISTS

-- there are places for so many answers
abbrev pub Room : ℕ → List ℕ → List ℤ → Type 0
Room count addresses answers = (3 * count ≤ length addresses) × (8 * count ≤ length answers) × (8 * count < 2 ^ 64)

-- the numbers of address i
abbrev pub named_page : ℕ → List ℕ → ℕ
named_page i addresses = get_or addresses (3 * i) 0 % 2 ^ 32

abbrev pub named_cell : ℕ → List ℕ → ℕ
named_cell i addresses = get_or addresses (3 * i + 1) 0

abbrev pub named_column : ℕ → List ℕ → ℕ
named_column i addresses = get_or addresses (3 * i + 2) 0

-- the list with the answers from address i on
abbrev pub rest : (Address → Shown) → List ℕ → ℕ → List ℤ → List ℤ
rest f addresses i answers = sets answers (8 * i) (words_by f (addresses_in (drop (3 * i) addresses)))

-- whether there is an address i, and it names the cell that `at` names
abbrev pub same_cell : List ℕ → ℕ → ℕ → ℕ → Bool
same_cell addresses count i at =
    pick (ltb i count)
    (pick (eqb (named_page i addresses) (named_page at addresses)) (eqb (named_cell i addresses) (named_cell at addresses)) false) false

-- A TURN from address `at` to `next`: by whatever answers as it must, the list is to hold in the end what it was to hold

pub record Turn (Must : (Address → Shown) → Type 0) (count : ℕ) (addresses : List ℕ) (at next : ℕ) (lent answers : List ℤ) : Type 0 where
  pub on : at < next
  pub within : next ≤ count
  pub long : length answers ≡ length lent
  pub is : (f : Address → Shown) → Must f → rest f addresses next answers ≡ rest f addresses at lent

-- so in the columns of a cell
abbrev pub CellAnswers : ℕ → ℕ → (ℕ → Shown) → (Address → Shown) → Type 0
CellAnswers page cell g f = (k : ℕ) → f (address page cell k) ≡ g k

-- in the cells of a page
abbrev pub PageAnswers : ℕ → (ℕ → ℕ → Shown) → (Address → Shown) → Type 0
PageAnswers page g f = (i k : ℕ) → f (address page i k) ≡ g i k

-- everywhere
abbrev pub Single : Chosen → List ℕ → (Address → Shown) → Type 0
Single chosen db f = (a : Address) → f a ≡ answer_to chosen db a
