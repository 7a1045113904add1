-- A payload that spills, from its page and its overflow chain. File format, 1.7 "Cell Payload Overflow Pages".
use Rattle.std.specs.Prelude.{ℕ, ◌+◌, ◌-◌, List, ◌++◌, ltb, length, take, drop, Err, Ok, Result}
use Rattle.laws.specs.Pick.{pick}
use Rattle.fields.specs.Fields.{unsigned}
use Rattle.answers.specs.declared.Fault.{Fault}
use Rattle.answers.specs.declared.Fault.TheVariants as fa
use Rattle.answers.specs.Answer.{◌>>=◌}
use Rattle.kinds.specs.declared.Kind.{Kind}
use Rattle.shape.specs.declared.Shape.{Shape}
use Rattle.kept.specs.Kept.{kept_of, links_of}
use Rattle.links.specs.Links.{chain_of}

-- behind what stays on the page, the number of the first page of the chain
abbrev pub chain_from : ℕ → Shape → ℕ → List ℕ → List ℕ → Result (List ℕ) Fault
chain_from kept shape p s db = chain_of (links_of shape.end (p - kept)) shape (unsigned 4 (drop kept s)) db

abbrev pub payload_from : ℕ → Shape → ℕ → ℕ → List ℕ → List ℕ → Result (List ℕ) Fault
payload_from kept shape room p s db =
    pick (ltb room p) (Err fa.BufferTooShort)
    (pick (ltb (length s) (kept + 4)) (Err fa.CellCut)
    (chain_from kept shape p s db >>= (λ rest. Ok (take p (take kept s ++ rest)))))

-- a payload of p bytes that spills, gathered in a buffer with that room: s are the bytes behind the numbers of its cell, of
-- kind k. What stays on the page, and then the chain's, as far as p goes
unfoldable pub payload_of : Kind → Shape → ℕ → ℕ → List ℕ → List ℕ → Result (List ℕ) Fault
payload_of k shape room p s db = payload_from (kept_of k shape.end p) shape room p s db
