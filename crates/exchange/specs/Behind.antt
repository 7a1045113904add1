-- THEOREM: what is behind both halves never changes. It is the last entry where their number is odd, and nothing where it is even.
use Rattle.std.specs.Prelude.{◌*◌, ◌/◌, ◌≡◌, List, length, drop}
use Rattle.table.specs.declared.Entry.{Entry}
use Rattle.exchange.specs.Run.{Call, after}

-- the table behind place 2 (n / 2), of n
abbrev pub behind_both : List Entry → List Entry
behind_both ys = drop (2 * (length ys / 2)) ys

abbrev pub BehindKept : Type 0
BehindKept = (calls : List Call) (ys : List Entry) → behind_both (after calls ys) ≡ behind_both ys
