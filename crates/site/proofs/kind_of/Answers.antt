-- The kind whose byte it is, or none.
use mathlib.Core.Path.{◌≡◌, refl, sym, ap, ◌∙◌}
use Prim.Native.Nat.{ℕ}
use borrow.Author.Tests.{ne_eqb}
use Rattle.std.specs.Prelude.{Err, Ok, Some, Result}
use Rattle.std.specs.Result.{result_ok}
use Rattle.kinds.specs.declared.Kind.{Kind}
use Rattle.kinds.specs.declared.Kind.TheVariants.{InteriorIndex, InteriorTable, LeafIndex, LeafTable}
use Rattle.kinds.specs.declared.NoKind.{NoKind}
use Rattle.kinds.specs.Kind.{kind_byte, Names}
use Rattle.site.specs.Kinds.{kind_of}
use Rattle.site.proofs.kind_of.Goals as goal

own : (kind : Kind) → Some kind ≡ kind_of (kind_byte kind)
own InteriorIndex = refl
own InteriorTable = refl
own LeafIndex = refl
own LeafTable = refl

named : (byte : ℕ) (r : Result Kind NoKind) → Names byte r → result_ok r ≡ kind_of byte
named byte (Ok kind) e = own kind ∙ ap kind_of e
named byte (Err none) h =
    rw (
      ne_eqb byte 2 (λ e. h InteriorIndex (sym e)),
      ne_eqb byte 5 (λ e. h InteriorTable (sym e)),
      ne_eqb byte 10 (λ e. h LeafIndex (sym e)),
      ne_eqb byte 13 (λ e. h LeafTable (sym e)),
    )

pub returns : goal.returns
returns c = c.ok.ensures.value ∙ named c.args.byte c.try_from.result c.try_from.ensures
