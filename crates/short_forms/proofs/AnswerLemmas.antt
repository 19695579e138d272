-- Answers by equal values.
use Rattle.std.proofs.Common.{◌≡◌, ◌∙◌, Option, Result, None, Some, Ok, Err, IsErrAnd, subst, ap, refl, sym}
use Rattle.short_forms.specs.Answers.{Gives, answer_of}
use Rattle.short_forms.specs.declared.form.Form.{Form}
use Rattle.short_forms.specs.declared.form.FormRefusal.{FormRefusal}
use Rattle.short_forms.specs.declared.form.FormRefusal.TheVariants.{BadForm, Memory}

pub gives_same : {V : Type 0} (form : Form) (r : Result V FormRefusal) (o p : Option V) → o ≡ p → Gives r (answer_of form o) → Gives r (answer_of form p)
gives_same {V} form r o p e h = let P : Option V → Type 0 = λ v. Gives r (answer_of form v) in subst P e h

-- a refusal that is passed on
pub gives_refusal : {V W : Type 0} (form : Form) (refusal : FormRefusal) (o : Option V) (p : Option W) → (o ≡ None → p ≡ None)
    → Gives {V = V} (Err refusal) (answer_of form o) → Gives {V = W} (Err refusal) (answer_of form p)
gives_refusal {V} {W} form Memory o p none h = tt
gives_refusal {V} {W} form (BadForm which) None p none h = let same : form ≡ which = cc in ap (answer_of form) (none refl) ∙ ap (λ (f : Form). answer_of {V = W} f None) same
gives_refusal {V} {W} form (BadForm which) (Some v) p none h = absurd (let wrong : ⊥ = cc in wrong)

-- a value that is given is the definition's
pub given_value : {V : Type 0} (form : Form) (v : V) (o : Option V) → Gives (Ok v) (answer_of form o) → o ≡ Some v
given_value form v None h = absurd (let wrong : ⊥ = cc in wrong)
given_value form v (Some w) h = cc

-- the refusal of a call, passed on by `?`
pub gives_passed : {V W : Type 0} (form : Form) (r : Result W FormRefusal) (refusal : FormRefusal) (o : Option V) (p : Option W) → IsErrAnd r (λ e. e ≡ refusal)
    → (o ≡ None → p ≡ None) → Gives {V = V} (Err refusal) (answer_of form o) → Gives r (answer_of form p)
gives_passed {V} {W} form (Ok w) refusal o p same none h = absurd same
gives_passed {V} {W} form (Err e) refusal o p same none h =
    let P : FormRefusal → Type 0 = λ f. Gives {V = W} (Err f) (answer_of form p) in subst P (sym same) (gives_refusal {V = V} {W = W} form refusal o p none h)
