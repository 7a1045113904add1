-- The calls' steps as the code has them: the record of a gathered payload, and a value.
use Rattle.std.specs.Prelude.{ℕ, List, Err, Ok, Result}
use Rattle.answers.specs.declared.Refusal.{Refusal}
use Rattle.answers.specs.Answer.{◌>>=◌}
use Rattle.cell.specs.declared.Numbers.{Numbers}
use Rattle.place.specs.declared.Page.{Page}
use Rattle.page.specs.declared.Open.{Open}
use Rattle.cells.specs.Located.{Located}
use Rattle.chain.specs.Gathered.{gathered_with}
use Rattle.row.specs.declared.FoundCell.{FoundCell}
use Rattle.row.specs.Column.{column_from}
use Rattle.row_values.specs.File.{shown_by}
use Rattle.spills.specs.declared.Source.{Source}
use Rattle.spills.specs.declared.Source.TheVariants.{Database}
use Rattle.spilled.specs.Lent.{Spilled, recorded_in, found_on, gathered_by}
use Rattle.spilled.specs.Values.{from}
use Rattle.spilled.specs.Lent.{found_from}
use Rattle.spilled.specs.declared.FoundIn.{FoundIn}
use Rattle.spilled.specs.declared.ValueIn.{ValueIn}

-- a cell on its page
abbrev pub on_page : Result Located Refusal → Result FoundIn Refusal
on_page (Err refusal) = Err refusal
on_page (Ok l) = found_from (found_on l) Database

-- a spilled one, by its numbers
abbrev pub spilled_with : Open → ℕ → Numbers → ℕ → List ℕ → Result Spilled Refusal
spilled_with o i n room db = gathered_with o i n room db >>= recorded_in o.page i

abbrev pub recorded_by : Page → ℕ → Numbers → List ℕ → Result FoundIn Refusal
recorded_by page i n q = gathered_by (recorded_in page i (record { numbers = n; payload = q }))

-- column k of a cell that was found, in the bytes that its cursor counts in
abbrev pub value_over : ℕ → List ℕ → FoundCell → Source → Result ValueIn Refusal
value_over k bytes found source = from source (shown_by bytes (column_from k bytes (Ok found)))
