-- How a call answers: by a definition's value, or BadForm where there is none.
use Rattle.std.specs.Prelude.{Bool, true, false, Option, Result}
use Rattle.std.specs.Option.{ok_or}
use Rattle.tree_base.specs.Answers as answers
use Rattle.short_forms.specs.declared.form.Form.{Form}
use Rattle.short_forms.specs.declared.form.FormRefusal.{FormRefusal}
use Rattle.short_forms.specs.declared.form.FormRefusal.TheVariants.{BadForm, Memory}

-- the value of a form, or BadForm where the text has none
abbrev pub answer_of : {V : Type 0} → Form → Option V → Result V FormRefusal
answer_of form value = ok_or value (BadForm form)

-- a refusal for want of memory
abbrev pub wants_memory : FormRefusal → Bool
wants_memory Memory = true
wants_memory (BadForm form) = false

-- what a call gave is the answer, unless it found no memory
abbrev pub Gives : {V : Type 0} → Result V FormRefusal → Result V FormRefusal → Type 0
Gives given answer = answers.Gives wants_memory given answer
