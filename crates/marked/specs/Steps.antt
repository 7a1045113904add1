-- The step of the calls that looks for a mark, as the code has it.
use Rattle.std.specs.Prelude.{ℕ, ◌-◌, List, take, drop, Option}
use Rattle.reading.specs.declared.Reading.TheVariants.{File as file}
use Rattle.reading.specs.Reading.{limit}
use Rattle.record.specs.Types.{types_of}
use Rattle.marks.specs.Marks.{lowest}
use Rattle.row.specs.declared.FoundCell.{FoundCell}
use Rattle.answers.specs.declared.Mark.{Mark}

-- the lowest mark of a spilled cell, of the types in its payload that its cursor stands before
abbrev pub mark_over : FoundCell → List ℕ → Option Mark
mark_over found payload =
    lowest found.cell.numbers.size.length found.cell.numbers.key.length found.cell.header.length
    (types_of (limit file) (take (found.cursor.stop - found.cursor.at) (drop found.cursor.at payload)))
