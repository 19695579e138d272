-- What a call gave is an answer, and so is what is the same.
use Rattle.std.proofs.Common.{◌≡◌, subst}
use Rattle.std.specs.Prelude.{Result}
use Rattle.loading_words.specs.declared.refusal.TreeRefusal.{TreeRefusal}
use Rattle.project_meaning.specs.Answers.{Gives}

pub gives_same : {A : Type 0} (given : Result A TreeRefusal) (x y : Result A TreeRefusal) → x ≡ y → Gives given x → Gives given y
gives_same {A} given x y e h = subst (λ (z : Result A TreeRefusal). Gives given z) e h
