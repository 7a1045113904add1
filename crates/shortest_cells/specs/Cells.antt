-- Whether all varints that a reading took from a cell are in their shortest form. What it did not take does not count: a type that
-- has no end, and what stands behind the values.
use Rattle.std.specs.Prelude.{Bool, true, ◌||◌, ◌&&◌, eqb}
use Rattle.varint.specs.declared.Number.{Number}
use Rattle.shortest.specs.Shortest.{shortest}
use Rattle.record.specs.Types.{Types, done, broken, column}
use Rattle.cell.specs.declared.Cell as dc
use Rattle.cell.specs.Cell.{Cell}

abbrev pub each_shortest : Types → Bool
each_shortest done = true
each_shortest broken = true
each_shortest (column t rest) = shortest t && each_shortest rest

-- a number that a kind lacks took no byte
abbrev pub taken_shortest : Number → Bool
taken_shortest n = eqb n.length 0 || shortest n

-- payload size, row number or key, header size, and the row number once more: of an index record in the old reading it is the
-- varint behind it
abbrev pub all_shortest : Number → Number → Number → Number → Types → Bool
all_shortest size key header row types =
    taken_shortest size && (taken_shortest key && (taken_shortest header && (taken_shortest row && each_shortest types)))

abbrev pub cell_shortest : Cell → Bool
cell_shortest c = all_shortest c.numbers.size c.numbers.key c.header c.row c.types

-- of a cell as the code has it, with its types beside it
abbrev pub told_shortest : dc.Cell → Types → Bool
told_shortest c types = all_shortest c.numbers.size c.numbers.key c.header c.row types
