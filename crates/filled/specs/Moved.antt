-- A cursor that is moved on.
use Rattle.std.specs.Prelude.{ℕ, ◌+◌}
use Rattle.columns.specs.declared.Cursor.{Cursor}

-- behind a type of n bytes, whose value ends at `value`
abbrev pub moved_to : ℕ → ℕ → Cursor → Cursor
moved_to n value c = record { reading = c.reading; at = c.at + n; stop = c.stop; value = value; end = c.end }
