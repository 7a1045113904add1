-- A cell of an opened page, whoever opened it or made it up.
use mathlib.Core.Path.{◌≡◌, refl, ap, ◌∙◌}
use mathlib.Core.Bool.{false}
use Rattle.answers.specs.declared.Refusal.TheVariants.{InCell}
use Rattle.answers.specs.declared.Fault.TheVariants as fa
use Rattle.kinds.specs.declared.Kind.{Kind}
use Rattle.kinds.specs.declared.Kind.TheVariants.{InteriorIndex, InteriorTable, LeafIndex, LeafTable}
use Rattle.kinds.specs.Kind.{is_leaf_table}
use Rattle.page.specs.declared.Open.{Open}
use Rattle.cells.proofs.Laws.{held}
use Rattle.guarded.specs.Guarded.{unmarked}
use Rattle.guarded.proofs.Guard.{guarded_by, other-in, leaf-in, guarded-in, guarded-again}
use Rattle.agreement.specs.Agreement.{EveryOpenGuarded}
use Rattle.std.specs.Prelude.{Err}

other-kind : (k : Kind) → (k ≡ LeafTable → ⊥) → is_leaf_table k ≡ false
other-kind InteriorIndex n = refl
other-kind InteriorTable n = refl
other-kind LeafIndex n = refl
other-kind LeafTable n = absurd (n refl)

pub every-open-guarded : EveryOpenGuarded
every-open-guarded o i db = (
  λ l e. let g = guarded-in o i db e in (g.leaf, g.located, g.clear),
  λ l k e m. guarded-again o i db (record { leaf = k; located = e; clear = m }),
  λ n. other-in o i db (other-kind o.kind n),
  λ refusal k e. leaf-in o i db (ap is_leaf_table k) ∙ ap (guarded_by i) e,
  λ l mark k e m.
      leaf-in o i db (ap is_leaf_table k) ∙ ap (guarded_by i) e ∙ ap (unmarked i l) m
      ∙ ap (λ (p : Open). Err (InCell p.page.number i (fa.Marked mark))) (held o i db e).opened,
)
