-- Answers that go on into others, where a call gave a value and where it was refused.
use Rattle.std.proofs.Common.{◌≡◌, ap, sym, subst}
use Rattle.std.specs.Prelude.{Ok, Err}
use Rattle.std.specs.Result.{IsErrAnd}
use Rattle.tree_base.specs.Answers.{◌>>=◌}
use Rattle.attribute_types.specs.Answers.{Gives}
use Rattle.attribute_types.specs.declared.refusal.AttributeRefusal.{AttributeRefusal}
use Rattle.attribute_scalars.specs.Walks.{Read}
use Rattle.attribute_scalars.proofs.Walks.{gives_on}

-- a call that was refused, passed on by `?`
pub gives_passed : {A B : Type 0} (given : Read B) (refusal : AttributeRefusal) (answer : Read A) (next : A → Read B) → IsErrAnd given (λ e. e ≡ refusal)
    → Gives {X = A} (Err refusal) answer → Gives given (answer >>= next)
gives_passed (Ok b) refusal answer next same h = absurd same
gives_passed {A} {B} (Err e) refusal answer next same h =
    subst (λ (z : AttributeRefusal). Gives {X = B} (Err z) (answer >>= next)) (sym same) (gives_on refusal answer (answer >>= next) (λ is. ap (λ (r : Read A). r >>= next) is) h)

-- what a call gave goes on
pub goes_on : {A B : Type 0} (answer : Read A) (next : A → Read B) (a : A) → answer ≡ Ok a → (answer >>= next) ≡ next a
goes_on answer next a e = ap (λ r. r >>= next) e
