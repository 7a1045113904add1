-- THEOREM: the half of a truck is what its own calls make of it, each the page call that is lent this half as a whole table. What the
-- other truck asked before, between and behind them is nowhere in it.
use Rattle.std.specs.Prelude.{◌≡◌, List}
use Rattle.halves.specs.Halves.{lent_of}
use Rattle.table.specs.declared.Entry.{Entry}
use Rattle.exchange.specs.Run.{Truck, Call, half_of, after, own, alone}

abbrev pub OwnAlone : Type 0
OwnAlone = (t : Truck) (calls : List Call) (ys : List Entry)
    → lent_of (half_of t) (after calls ys) ≡ alone (own t calls) (lent_of (half_of t) ys)
