-- THEOREM: a page call that is refused leaves the table that is lent as it was, whatever the table and whichever its share is.
use Rattle.std.specs.Prelude.{ℕ, ◌≡◌, List, length, Err}
use Rattle.answers.specs.declared.Refusal.{Refusal}
use Rattle.halves.specs.declared.Share.{Share}
use Rattle.place.specs.declared.Page.{Page}
use Rattle.table.specs.declared.Entry.{Entry}
use Rattle.lent.specs.Call.{answer_of, left_of}

abbrev pub RefusedKeeps : Type 0
RefusedKeeps = (share : Share) (asked : Page) (db : List ℕ) (ys : List Entry) (refusal : Refusal)
    → answer_of share asked db (length ys) ≡ Err refusal → left_of share asked db ys ≡ ys
