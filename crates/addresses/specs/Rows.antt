-- A screenful worked by hand, over a single call that is made for it: it shows page, cell and column as the digits of a number, a
-- blob in column 7, and refuses columns 8 and 9.
use Rattle.std.specs.Prelude.{ℕ, ◌+◌, ◌*◌, ◌^◌, ◌≡◌, List, [], ◌∷◌, ◌++◌, eqb, ℤ, pos, length, replicate, Err, Ok, Result}
use Rattle.laws.specs.Pick.{pick}
use Rattle.answers.specs.declared.Fault.TheVariants.{TypeReserved, Marked}
use Rattle.answers.specs.declared.Mark.TheVariants.{StoredOne}
use Rattle.answers.specs.declared.Refusal.TheVariants.{InCell}
use Rattle.values.specs.declared.old.Value.TheVariants.{I16, Blob}
use Rattle.turns.specs.declared.types.Shown.{Shown}
use Rattle.turns.specs.declared.types.Screened.{Screened}
use Rattle.turns.specs.Shown.{old_shown}
use Rattle.addresses.specs.Screen.{Address, answered_by, screened}
use Rattle.answers.specs.declared.Refusal.{Refusal}
use Rattle.values.specs.declared.old.Value.{Value}

abbrev pub shown_in : ℕ → ℕ → ℕ → Result Value Refusal
shown_in page cell column =
    pick (eqb column 9) (Err (InCell page cell (TypeReserved 2)))
    (pick (eqb column 8) (Err (InCell page cell (Marked StoredOne)))
    (pick (eqb column 7) (Ok (Blob 40 5))
    (Ok (I16 (pos (100 * page + 10 * cell + column))))))

abbrev pub single : Address → Shown
single a = old_shown (shown_in a.page a.cell a.column)

-- five addresses and a word that is over; the upper half of a page's word counts for nothing
abbrev pub asked : List ℕ
asked = 1 ∷ 2 ∷ 3 ∷ 4 ∷ 5 ∷ 9 ∷ 2 ∷ 0 ∷ 8 ∷ 1 ∷ 2 ∷ 7 ∷ (2 ^ 32 + 6) ∷ 7 ∷ 6 ∷ 1 ∷ []

-- a refusal is number, mark and page in one word, then cell and column; a value is kind and width in one word, then a number, bits,
-- place and length; two words stay
abbrev pub answers : List ℤ
answers =
    (pos 0 ∷ pos 0 ∷ pos 0 ∷ pos 4097 ∷ pos 123 ∷ pos 0 ∷ pos 0 ∷ pos 0 ∷ [])
    ++ (pos 17179869199 ∷ pos 5 ∷ pos 2 ∷ pos 0 ∷ pos 0 ∷ pos 0 ∷ pos 0 ∷ pos 0 ∷ [])
    ++ (pos 8589935381 ∷ pos 0 ∷ pos 0 ∷ pos 0 ∷ pos 0 ∷ pos 0 ∷ pos 0 ∷ pos 0 ∷ [])
    ++ (pos 0 ∷ pos 0 ∷ pos 0 ∷ pos 4 ∷ pos 0 ∷ pos 0 ∷ pos 40 ∷ pos 5 ∷ [])
    ++ (pos 0 ∷ pos 0 ∷ pos 0 ∷ pos 4097 ∷ pos 676 ∷ pos 0 ∷ pos 0 ∷ pos 0 ∷ [])
    ++ (pos 77 ∷ pos 77 ∷ [])

abbrev pub AnswersWorked : Type 0
AnswersWorked = answered_by single asked (replicate 42 (pos 77)) ≡ answers

-- in 42 words there is room for five answers, and in 39 for four: 19, with no page
abbrev pub told : ℕ → ℕ → Screened
told number count = record { refused = record { number = number; mark = 0; page = 0; cell = 0; column = 0 }; count = count }

abbrev pub CountsWorked : Type 0
CountsWorked = (screened 42 (length asked) ≡ told 0 5) × (screened 39 (length asked) ≡ told 19 0)
