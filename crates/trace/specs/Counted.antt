-- What the code has of a walk: how many rows it finds, or its refusal.
use Rattle.std.specs.Prelude.{ℕ, ◌+◌, ltb, Err, Result, Ok}
use Rattle.laws.specs.Pick.{pick}
use Rattle.answers.specs.declared.Refusal.{Refusal}
use Rattle.trace.specs.declared.State.{State}
use Rattle.trace.specs.Walk.{Walk, refused, went, row, page}
use Rattle.trace.specs.declared.Walked.{Walked}

-- a walk that came to its end
abbrev pub walked : State → ℕ → Result Walked Refusal
walked state count = Ok (record { state = state; count = count })

-- one more, as far as 64 bits count
abbrev pub more : ℕ → ℕ
more n = pick (ltb n 18446744073709551615) (n + 1) n

-- n rows and those of the walk
abbrev pub counted : ℕ → Walk State → Result Walked Refusal
counted n (refused r) = Err r
counted n (went s) = walked s n
counted n (row r w) = counted (more n) w
counted n (page k w) = counted n w
