-- The entry of a cell, as a page call writes it: 0 for what its kind lacks.
use Rattle.std.specs.Prelude.{ℕ, zero, suc, List, [], ◌∷◌, ◌++◌, pos, drop, Err, Ok, Result}
use Rattle.kinds.specs.Kind.{kind_byte}
use Rattle.page.specs.declared.Open.{Open}
use Rattle.cells.specs.Located.{row_number, located_in, located_answer}
use Rattle.table.specs.declared.Entry.{Entry}
use Rattle.answers.specs.declared.Refusal.{Refusal}
use Rattle.cells.specs.declared.Located as dl

abbrev pub none : Entry
none = record { kind = 0; pointer = 0; child = 0; payload_size = 0; row = pos 0; header_size = 0; columns = 0 }

abbrev pub entry_by : Open → Result dl.Located Refusal → Entry
entry_by o (Err refusal) = none
entry_by o (Ok l) =
    record {
      kind = kind_byte o.kind;
      pointer = l.pointer;
      child = l.cell.numbers.child;
      payload_size = l.cell.numbers.size.value;
      row = row_number l.cell.row.value;
      header_size = l.cell.header.value;
      columns = l.cell.columns;
    }

-- the entry of cell i of a page as it was opened; none where there is no such cell
unfoldable pub entry_for : Result Open Refusal → List ℕ → ℕ → Entry
entry_for (Err refusal) db i = none
entry_for (Ok o) db i = entry_by o (located_answer (located_in o i db))

-- the entries of the first n cells
unfoldable pub entries : Result Open Refusal → List ℕ → ℕ → List Entry
entries opening db zero = []
entries opening db (suc n) = entries opening db n ++ entry_for opening db n ∷ []

-- a table ys in which n entries are filled: the rest is as it was
abbrev pub filled : Result Open Refusal → List ℕ → ℕ → List Entry → List Entry
filled opening db n ys = entries opening db n ++ drop n ys
