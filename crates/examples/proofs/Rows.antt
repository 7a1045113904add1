-- The table comes out as it stands when the definitions are computed.
use mathlib.Core.Path.{refl}
use Rattle.fields.specs.Fields.{be, twos}
use Rattle.varint.specs.Varint.{scan}
use Rattle.serial.specs.Serial.{width_of}
use Rattle.values.specs.Old as ov
use Rattle.values.specs.File as fv
use Rattle.parts.specs.Part.{part_of}
use Rattle.record.specs.Types.{types, walk}
use Rattle.record.specs.Record.{fitted, record_of}
use Rattle.cell.specs.Numbers.{numbers_of}
use Rattle.cell.specs.Cell.{behind, cell_of}
use Rattle.columns.specs.Columns.{slot_in}
use Rattle.marks.specs.Marks.{lowest}
use Rattle.header.specs.Header.{field_of, page_size_of, usable, checked_of, sizes_of}
use Rattle.place.specs.Place.{place_of}
use Rattle.shape.specs.Shape.{shape_of}
use Rattle.site.specs.Site as si
use Rattle.page.specs.Open as po
use Rattle.cells.specs.Pointers.{cell_at}
use Rattle.cells.specs.Located as ce
use Rattle.row_head.specs.Head as ro
use Rattle.row.specs.Column as rc
use Rattle.row_values.specs.Old as rold
use Rattle.row_values.specs.File as rfile
use Rattle.guarded.specs.Guarded as gu
use Rattle.agreement.specs.Shows.{old_shows, file_shows, guarded_shows}
use Rattle.examples.specs.Rows.{database_of, seen_of, Worked}

pub worked : Worked
unfolding seen_of database_of old_shows file_shows guarded_shows ro.count_of ro.row_of rc.column_of rold.shown_of rfile.shown_of gu.open_of gu.located_in gu.located_of gu.count_of gu.row_of gu.shown_of ce.located_of ce.located_in cell_at si.site_of po.open_from po.open_of place_of shape_of sizes_of checked_of usable page_size_of field_of lowest slot_in cell_of behind numbers_of record_of fitted walk types part_of fv.value_of ov.value_of width_of be twos scan
worked = refl
