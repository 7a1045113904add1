-- The shape that is found is one of the file reading's.
use mathlib.Core.Path.{sym, ◌∙◌}
use Rattle.chain.proofs.Laws.{shape-shaped}
use Rattle.chain.proofs.gather_in.Goals as goal

pub gather-requires : goal.gather-requires
gather-requires c = shape-shaped c.args.db.now {shape = c.in_ok-shape.shape} (sym c.shape_of.ensures ∙ c.in_ok-shape.was)
