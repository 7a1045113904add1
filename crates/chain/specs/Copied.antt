-- Bytes that are laid over a part of a buffer, as the code does while it gathers.
use Rattle.std.specs.Prelude.{ℕ, ◌+◌, List, ◌++◌, length, take, drop}

-- q over the bytes of a buffer from `at` on
abbrev pub laid_at : ℕ → List ℕ → List ℕ → List ℕ
laid_at at q buffer = take at buffer ++ (q ++ drop (at + length q) buffer)
