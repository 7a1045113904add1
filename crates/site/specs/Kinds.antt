-- The kind of a page. File format, 1.6: the first byte of a page's header.
use Rattle.std.specs.Prelude.{ℕ, List, ltb, eqb, length, get_or, None, Option, Some}
use Rattle.laws.specs.Pick.{pick}
use Rattle.kinds.specs.declared.Kind.TheVariants.{InteriorIndex, InteriorTable, LeafIndex, LeafTable}
use Rattle.kinds.specs.declared.Kind.{Kind}

-- the kind that a byte names
abbrev pub kind_of : ℕ → Option Kind
kind_of b =
    pick (eqb b 2) (Some InteriorIndex)
    (pick (eqb b 5) (Some InteriorTable) (pick (eqb b 10) (Some LeafIndex) (pick (eqb b 13) (Some LeafTable) None)))

-- the kind that stands at `from` of a page, if a byte does
abbrev pub kind_at : ℕ → List ℕ → Option Kind
kind_at from page = pick (ltb from (length page)) (kind_of (get_or page from 0)) None
