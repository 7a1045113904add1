-- A part of a list by place and length.
use Rattle.std.specs.Prelude.{ℕ, ◌-◌, List, [], ltb, length, take, drop}
use Rattle.laws.specs.Pick.{pick}

-- the len bytes from `at` on; none where they do not all lie in s
unfoldable pub part_of : ℕ → ℕ → List ℕ → List ℕ
part_of at len s = pick (ltb (length s) at) [] (pick (ltb (length s - at) len) [] (take len (drop at s)))
