-- By the marks of the types, and by how the plain form lays their values.
use mathlib.Core.Path.{◌≡◌, refl, sym, ◌∙◌}
use mathlib.Core.Bool.{true, false}
use Rattle.std.specs.Prelude.{None, Option, Some}
use Rattle.std.specs.Option.{is_some}
use Rattle.laws.proofs.Never.{never}
use Rattle.reading.specs.Reading.{limit}
use Rattle.record.specs.Types.{types_of}
use Rattle.layout.specs.Lying.{Clean}
use Rattle.layout.proofs.Types.{clean-clear}
use Rattle.layout.proofs.long_layout.Goals as goal
use Rattle.layout.proofs.long_layout.Goals.{else-guarded-via-then-guarded+else-is_some, else-guarded-via-else-guarded}

unmarked : {A : Type 0} (x : Option A) → is_some x ≡ false → x ≡ None
unmarked None e = refl
unmarked (Some mark) e = never cc

pub returns : goal.returns
returns c = let a = c.args in
    let l = c.limit_of-limit.ensures in
    let ts = types_of (limit a.reading) a.t.now in
    let clean : a.guarded ≡ true → Clean ts = elim c.else-guarded.branch [
      | else-guarded-via-then-guarded+else-is_some w ↦ λ e.
          clean-clear ts (sym (rw l at w.mark_of.ensures) ∙ unmarked w.mark_of.result (sym w.is_some.ensures ∙ w.if-is_some.false))
      | else-guarded-via-else-guarded w ↦ λ e. never cc
    ] in
    (sym (rw l at c.lay.ensures) ∙ c.in-Ends.is, clean)
