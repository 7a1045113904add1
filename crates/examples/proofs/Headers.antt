-- The table of headers comes out as it stands when the definitions are computed.
use mathlib.Core.Path.{refl}
use Rattle.fields.specs.Fields.{be}
use Rattle.header.specs.Header.{field_of, page_size_of, usable, checked_of, fields_in, header_of}
use Rattle.examples.specs.Headers.{header_bytes, head_again, HeadersWorked}

pub headers-worked : HeadersWorked
unfolding head_again header_bytes header_of fields_in checked_of usable page_size_of field_of be
headers-worked = refl
