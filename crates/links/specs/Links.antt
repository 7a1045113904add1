-- An overflow chain. File format, 1.7 "Cell Payload Overflow Pages": "The first four bytes of each overflow page are a
-- big-endian integer which is the page number of the next page in the chain, or zero for the final page in the chain. The
-- fifth byte through the last usable byte are used to hold overflow content."
use Rattle.std.specs.Prelude.{ℕ, zero, suc, ◌+◌, ◌-◌, List, [], ◌++◌, eqb, length, take, drop, Err, None, Ok, Option, Result, Some}
use Rattle.laws.specs.Pick.{pick}
use Rattle.fields.specs.Fields.{unsigned}
use Rattle.answers.specs.declared.Fault.{Fault}
use Rattle.answers.specs.declared.Fault.TheVariants as fa
use Rattle.answers.specs.Answer.{◌>>=◌}
use Rattle.shape.specs.declared.Shape.{Shape}
use Rattle.place.specs.Place.{file_page, place_of}
use Rattle.place.specs.declared.Place.{Place}

-- where a page of a chain lies
abbrev pub link_by : Option Place → Result ℕ Fault
link_by None = Err fa.ChainUnfit
link_by (Some place) = Ok place.at

abbrev pub link_at : Shape → ℕ → List ℕ → Result ℕ Fault
link_at shape number db = link_by (place_of (file_page number) (length db) shape)

-- the content of n pages of a chain, from the page of that number on; behind the last the chain ends
unfoldable pub chain_of : ℕ → Shape → ℕ → List ℕ → Result (List ℕ) Fault
chain_of zero shape number db = pick (eqb number 0) (Ok []) (Err fa.ChainUnfit)
chain_of (suc n) shape number db = do
  at ← link_at shape number db
  rest ← chain_of n shape (unsigned 4 (drop at db)) db
  Ok (take (shape.end - 4) (drop (at + 4) db) ++ rest)
