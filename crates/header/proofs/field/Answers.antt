-- Every field of the table lies in the header and has at most four bytes.
use mathlib.Core.Path.{◌∙◌}
use native.Mathlib.Omega.{arith}
use lib.ListN.{get_or}
use Rattle.tables.specs.Tables.{field_at, field_width}
use Rattle.header.specs.Header.{field_of}
use Rattle.header.proofs.Steps.{within, read}
use Rattle.header.proofs.field.Goals as goal

pub slice_bounds-be_u32-end : goal.slice_bounds-be_u32-end
slice_bounds-be_u32-end c = omega (arith, within c.args.i c.requires)

pub returns : goal.returns
unfolding field_of
returns c =
    let i = c.args.i in
    c.be_u32.ensures
    ∙ rw (c.from-at.ensures, c.from.ensures)
    (read c.args.head.now (get_or field_at i 0) (get_or field_width i 0) (within i c.requires).0)
