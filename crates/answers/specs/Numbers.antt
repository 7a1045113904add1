-- The numbers of each refusal: number, page, cell, column and mark, 0 where none applies. The table is that of docs/READINGS.md,
-- a clause for each row.
use Rattle.std.specs.Prelude.{ℕ}
use Rattle.answers.specs.declared.Refusal.{Refusal}
use Rattle.answers.specs.declared.Refusal.TheVariants.{OfDatabase, OnPage, InCell}
use Rattle.answers.specs.declared.Flaw.{Flaw}
use Rattle.answers.specs.declared.Flaw.TheVariants as fl
use Rattle.answers.specs.declared.Reason.{Reason}
use Rattle.answers.specs.declared.Reason.TheVariants as re
use Rattle.answers.specs.declared.Fault.{Fault}
use Rattle.answers.specs.declared.Fault.TheVariants as fa
use Rattle.answers.specs.declared.Mark.{Mark}
use Rattle.answers.specs.declared.Mark.TheVariants as ma
use Rattle.answers.specs.declared.Numbers.{Numbers}

abbrev pub row : ℕ → ℕ → ℕ → ℕ → ℕ → Numbers
row number page cell column mark = record { number = number; page = page; cell = cell; column = column; mark = mark }

abbrev pub flaw_number : Flaw → ℕ
flaw_number fl.OverLimit = 22
flaw_number fl.OpeningDiffers = 1
flaw_number fl.HeaderCut = 2
flaw_number fl.EncodingUnknown = 3
flaw_number fl.PageSizeUnfit = 4
flaw_number fl.UsableTooSmall = 5
flaw_number fl.ReadVersionAbove = 6
flaw_number fl.FractionsDiffer = 7

abbrev pub reason_number : Reason → ℕ
reason_number re.PageAbsent = 8
reason_number re.RootTooSmall = 9
reason_number re.KindUnfit = 10
reason_number re.PointersPassEnd = 11
reason_number re.TableTooShort = 19
reason_number re.NoSuchCell = 20
reason_number re.NoSuchColumn = 20
reason_number re.IndexPage = 25
reason_number re.TooDeep = 26
reason_number re.VisitsUsedUp = 28

abbrev pub mark_number : Mark → ℕ
mark_number ma.LongVarint = 1
mark_number ma.WideHeaderSize = 2
mark_number ma.StoredOne = 3
mark_number ma.EmptyValue = 4
mark_number ma.Spilled = 5

-- in a cell of a page
abbrev pub fault_row : ℕ → ℕ → Fault → Numbers
fault_row page cell fa.PointerOutside = row 12 page cell 0 0
fault_row page cell fa.CellCut = row 13 page cell 0 0
fault_row page cell fa.PayloadSpills = row 18 page cell 0 0
fault_row page cell fa.BufferTooShort = row 24 page cell 0 0
fault_row page cell fa.ChainUnfit = row 23 page cell 0 0
fault_row page cell fa.HeaderUnfit = row 14 page cell 0 0
fault_row page cell (fa.TypeReserved column) = row 15 page cell column 0
fault_row page cell (fa.ValueUnfit column) = row 16 page cell column 0
fault_row page cell fa.ClosingCut = row 17 page cell 0 0
fault_row page cell (fa.Marked mark) = row 21 page cell 0 (mark_number mark)
fault_row page cell fa.OutOfOrder = row 27 page cell 0 0

abbrev pub numbers_of : Refusal → Numbers
numbers_of (OfDatabase flaw) = row (flaw_number flaw) 0 0 0 0
numbers_of (OnPage page reason) = row (reason_number reason) page 0 0 0
numbers_of (InCell page cell fault) = fault_row page cell fault
