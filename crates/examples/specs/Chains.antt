-- Payloads that spill, worked by hand: how one is cut on pages of 512 usable bytes, and chains of pages that are small enough
-- to be written down.
use Rattle.std.specs.Prelude.{ℕ, ◌-◌, ◌≡◌, List, [], ◌∷◌, ◌++◌, map, Err, Ok, Result}
use Rattle.answers.specs.declared.Fault.{Fault}
use Rattle.answers.specs.declared.Fault.TheVariants as fa
use Rattle.kinds.specs.declared.Kind.{Kind}
use Rattle.kinds.specs.declared.Kind.TheVariants.{LeafTable, LeafIndex}
use Rattle.shape.specs.declared.Shape.{Shape}
use Rattle.kept.specs.Kept.{kept_of, links_of}
use Rattle.links.specs.Links.{chain_of}

-- THE CUT: M is 39, X is 477 in a table and 102 in an index, a page of a chain holds 508

-- a payload of that size keeps so much on its page, and has so many pages behind it
pub data Cut : Type 0 where
  keeps : Kind → (size kept pages : ℕ) → Cut

unfoldable pub cut_again : Cut → Cut
cut_again (keeps k size kept pages) = keeps k size (kept_of k 512 size) (links_of 512 (size - kept_of k 512 size))

abbrev pub cuts : List Cut
cuts =
    keeps LeafTable 478 39 1
    -- K is X
    ∷ keeps LeafTable 985 477 1
    ∷ keeps LeafTable 986 39 2
    ∷ keeps LeafTable 600 92 1
    ∷ keeps LeafTable 5000 428 9
    ∷ keeps LeafIndex 600 92 1
    ∷ keeps LeafIndex 103 39 1
    ∷ keeps LeafIndex 5000 39 10
    ∷ []

abbrev pub CutsWorked : Type 0
CutsWorked = map cut_again cuts ≡ cuts

-- THE CHAIN: pages of 8 bytes of which 6 are used, so each has two for content

abbrev pub small : Shape
small = record { page_size = 8; end = 6; pages = 3; present = 3 }

-- pages 1, 2 and 3, and the numbers that 2 and 3 hand on to
abbrev pub three_pages : ℕ → ℕ → List ℕ
three_pages second third =
    (1 ∷ 1 ∷ 1 ∷ 1 ∷ 1 ∷ 1 ∷ 1 ∷ 1 ∷ []) ++ (0 ∷ 0 ∷ 0 ∷ second ∷ 20 ∷ 21 ∷ 9 ∷ 9 ∷ [])
    ++ (0 ∷ 0 ∷ 0 ∷ third ∷ 30 ∷ 31 ∷ 9 ∷ 9 ∷ [])

-- so many pages from that number on, in the file where 2 and 3 hand on so
pub data Chain : Type 0 where
  chain : (pages first second third : ℕ) → Result (List ℕ) Fault → Chain

unfoldable pub chain_again : Chain → Chain
chain_again (chain n first second third a) = chain n first second third (chain_of n small first (three_pages second third))

abbrev pub chains : List Chain
chains =
    chain 2 2 3 0 (Ok (20 ∷ 21 ∷ 30 ∷ 31 ∷ []))
    ∷ chain 2 3 0 2 (Ok (30 ∷ 31 ∷ 20 ∷ 21 ∷ []))
    ∷ chain 1 3 0 0 (Ok (30 ∷ 31 ∷ []))
    ∷ chain 0 0 3 0 (Ok [])
    -- it goes on, it ends early, it runs in a circle, it leaves the file
    ∷ chain 1 2 3 0 (Err fa.ChainUnfit)
    ∷ chain 3 2 3 0 (Err fa.ChainUnfit)
    ∷ chain 2 2 3 2 (Err fa.ChainUnfit)
    ∷ chain 2 2 4 0 (Err fa.ChainUnfit)
    ∷ []

abbrev pub ChainsWorked : Type 0
ChainsWorked = map chain_again chains ≡ chains
