-- Serial types and their widths: the table of the file format's section 2.1, "Record Format".
--
--   0 null         1 to 6 integers of 1, 2, 3, 4, 6, 8 bytes     7 a real of 8 bytes     8, 9 the integers 0 and 1
--   10, 11 reserved     even from 12: a blob of (n - 12)/2 bytes     odd from 13: a text of (n - 13)/2 bytes
use Rattle.std.specs.Prelude.{ℕ, ◌-◌, ◌/◌, ◌%◌, Bool, ltb, eqb, get_or, None, Option, Some}
use Rattle.laws.specs.Pick.{pick}
use Rattle.tables.specs.Tables.{widths}

-- from 12 on
abbrev pub is_blob : ℕ → Bool
is_blob serial = eqb (serial % 2) 0

abbrev pub length_of : ℕ → ℕ
length_of serial = pick (is_blob serial) ((serial - 12) / 2) ((serial - 13) / 2)

unfoldable pub width_of : ℕ → Option ℕ
width_of serial = pick (ltb serial 10) (Some (get_or widths serial 0)) (pick (ltb serial 12) None (Some (length_of serial)))
