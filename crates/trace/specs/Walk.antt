-- A walk, as it goes: the pages that it comes to and the rows that it finds, in their order, and how it ends.
use Rattle.std.specs.Prelude.{ℕ, List, [], ◌∷◌, ℤ, Err, Ok, Result}
use Rattle.answers.specs.declared.Refusal.{Refusal}

-- where a row is, and its number
pub record Row : Type 0 where
  pub page : ℕ
  pub cell : ℕ
  pub number : ℤ

pub data Walk (A : Type 0) : Type 0 where
  refused : Refusal → Walk A
  went : A → Walk A
  row : Row → Walk A → Walk A
  page : ℕ → Walk A → Walk A

-- one walk behind another
infixr 1 ◌>>=◌
abbrev pub ◌>>=◌ : {A B : Type 0} → Walk A → (A → Walk B) → Walk B
◌>>=◌ (refused r) f = refused r
◌>>=◌ (went a) f = f a
◌>>=◌ (row r w) f = row r (w >>= f)
◌>>=◌ (page n w) f = page n (w >>= f)

-- what is shown with no step
abbrev pub told : {A : Type 0} → Result A Refusal → Walk A
told (Err r) = refused r
told (Ok a) = went a

-- the rows that it finds, and the pages that it comes to
abbrev pub rows_of : {A : Type 0} → Walk A → List Row
rows_of (refused r) = []
rows_of (went a) = []
rows_of (row r w) = r ∷ rows_of w
rows_of (page n w) = rows_of w

abbrev pub pages_of : {A : Type 0} → Walk A → List ℕ
pages_of (refused r) = []
pages_of (went a) = []
pages_of (row r w) = pages_of w
pages_of (page n w) = n ∷ pages_of w
