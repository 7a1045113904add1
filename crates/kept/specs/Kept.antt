-- How much of a payload that spills stays on its page. File format, 1.6 "B-tree Pages": "let M be ((U-12)*32/255)-23 and let K
-- be M+((P-M)%(U-4)) ... If P>X and K<=X then the first K bytes of P are stored on the btree page and the remaining P-K bytes
-- are stored on overflow pages. If P>X and K>X then the first M bytes of P are stored on the btree page".
--
-- With U = 512 a table's payload of 600 bytes keeps 92 (K), one of 478 keeps 39 (M: its K is 478, over X).
use Rattle.std.specs.Prelude.{ℕ, suc, ◌+◌, ◌-◌, ◌*◌, ◌/◌, ◌%◌, leb, eqb}
use Rattle.laws.specs.Pick.{pick}
use Rattle.kinds.specs.declared.Kind.{Kind}
use Rattle.kinds.specs.Kind.{most_whole}

-- M
abbrev pub least_kept : ℕ → ℕ
least_kept u = (u - 12) * 32 / 255 - 23

-- K: what is over, if the overflow pages are filled
abbrev pub even_kept : ℕ → ℕ → ℕ
even_kept u p = least_kept u + (p - least_kept u) % (u - 4)

-- of a payload of p bytes in a cell of kind k, on a page of u usable bytes
unfoldable pub kept_of : Kind → ℕ → ℕ → ℕ
kept_of k u p = pick (leb (even_kept u p) (most_whole k u)) (even_kept u p) (least_kept u)

-- how many overflow pages hold n bytes: as many as they fill, and one more for what is over
unfoldable pub links_of : ℕ → ℕ → ℕ
links_of u n = pick (eqb (n % (u - 4)) 0) (n / (u - 4)) (suc (n / (u - 4)))
