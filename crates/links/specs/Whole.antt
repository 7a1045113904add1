-- What the code is told of a chain: the shapes of which there are pages, whether it is whole, and its content.
use Rattle.std.specs.Prelude.{ℕ, ◌≤◌, List, [], Bool, true, false, Err, Ok, Result}
use Rattle.answers.specs.declared.Fault.{Fault}
use Rattle.shape.specs.declared.Shape.{Shape}

-- a shape that the file reading shows: an overflow page has room for content
abbrev pub Shaped : Shape → Type 0
Shaped shape = (480 ≤ shape.end) × (shape.end ≤ shape.page_size)

abbrev pub whole : Result (List ℕ) Fault → Bool
whole (Err fault) = false
whole (Ok content) = true

abbrev pub content : Result (List ℕ) Fault → List ℕ
content (Err fault) = []
content (Ok bytes) = bytes
