-- What a short form's answer says of its value.
use Rattle.std.proofs.Common.{◌≡◌, Option, None, Some, Ok, Err, refl}
use Rattle.short_forms.specs.Answers.{answer_of}
use Rattle.short_forms.specs.declared.form.Form.{Form}
use Rattle.short_forms.specs.declared.form.FormRefusal.TheVariants.{BadForm}

pub none_of : {V : Type 0} (form which : Form) (value : Option V) → answer_of form value ≡ Err (BadForm which) → value ≡ None
none_of form which None h = refl
none_of form which (Some v) h = absurd (let wrong : ⊥ = cc in wrong)

pub some_of : {V : Type 0} (form : Form) (value : Option V) (v : V) → answer_of form value ≡ Ok v → value ≡ Some v
some_of form None v h = absurd (let wrong : ⊥ = cc in wrong)
some_of form (Some w) v h = cc
