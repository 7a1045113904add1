-- Of a page that is opened, the page call tests its room first, and only then its cells.
use Prim.Native.Nat.{◌/◌}
use lib.ListN.{length}
use Rattle.table.proofs.Laws.{page-too-short, page-long-enough}
use Rattle.exchange.specs.Run.{one, two}
use Rattle.exchange.specs.Room.{HalfCounts}

pub half-counts : HalfCounts
half-counts one page db ys o e = (page-too-short page db o e (length ys / 2), page-long-enough page db o e (length ys / 2))
half-counts two page db ys o e = (page-too-short page db o e (length ys / 2), page-long-enough page db o e (length ys / 2))
