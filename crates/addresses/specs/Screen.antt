-- A screenful at once: a list of addresses, and the answer of the single call to each in a lent list. Where that has fewer places
-- than there are addresses, it is row 19 of docs/READINGS.md, with no page, before anything is read.
use Rattle.std.specs.Prelude.{ℕ, ◌*◌, ◌/◌, ◌%◌, ◌^◌, List, [], ◌∷◌, ◌++◌, ltb, ℤ, length, drop}
use Rattle.laws.specs.Pick.{pick}
use Rattle.answers.specs.declared.Reason.TheVariants.{TableTooShort}
use Rattle.answers.specs.declared.Refusal.TheVariants.{OnPage}
use Rattle.turns.specs.declared.types.Shown.{Shown}
use Rattle.turns.specs.declared.types.Screened.{Screened}
use Rattle.turns.specs.Refusals.{accepted, refused_by}
use Rattle.turns.specs.Words.{shown_words}
use Rattle.chosen.specs.declared.Chosen.{Chosen}
use Rattle.chosen.specs.Chosen.{shown_of}

pub record Address : Type 0 where
  pub page : ℕ
  pub cell : ℕ
  pub column : ℕ

abbrev pub address : ℕ → ℕ → ℕ → Address
address page cell column = record { page = page; cell = cell; column = column }

-- the addresses in a list of words, three each; a page's number is the lower half of its word
abbrev pub addresses_in : List ℕ → List Address
addresses_in [] = []
addresses_in (p ∷ []) = []
addresses_in (p ∷ i ∷ []) = []
addresses_in (p ∷ i ∷ k ∷ rest) = address (p % 2 ^ 32) i k ∷ addresses_in rest

-- the single call
abbrev pub answer_to : Chosen → List ℕ → Address → Shown
answer_to chosen db a = shown_of chosen a.page a.cell a.column db

-- the answers to addresses, in words of 64 bits
abbrev pub words_by : (Address → Shown) → List Address → List ℤ
words_by f [] = []
words_by f (a ∷ rest) = shown_words (f a) ++ words_by f rest

-- THE LIST AT THE END: the answers, and behind them what it held

abbrev pub answered_by : (Address → Shown) → List ℕ → List ℤ → List ℤ
answered_by f addresses answers = words_by f (addresses_in addresses) ++ drop (8 * (length addresses / 3)) answers

-- THE CALL, where so many words are lent for so many words of addresses

abbrev pub screened : ℕ → ℕ → Screened
screened room words =
    pick (ltb (room / 8) (words / 3)) (record { refused = refused_by (OnPage 0 TableTooShort); count = 0 })
    (record { refused = accepted; count = words / 3 })

abbrev pub answers_over : Chosen → List ℕ → List ℕ → List ℤ → List ℤ
answers_over chosen db addresses answers =
    pick (ltb (length answers / 8) (length addresses / 3)) answers (answered_by (answer_to chosen db) addresses answers)
