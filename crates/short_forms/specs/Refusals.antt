-- How refusals are printed.
use Rattle.std.specs.Prelude.{ℕ, List, ◌++◌, codes}
use Rattle.short_forms.specs.declared.form.Form.{Form}
use Rattle.short_forms.specs.declared.form.FormRefusal.{FormRefusal}
use Rattle.short_forms.specs.declared.form.FormRefusal.TheVariants.{BadForm, Memory}

-- the name of a form
abbrev pub form_name : Form → List ℕ
form_name Form.Port = codes "Port"
form_name Form.Mount = codes "Mount"
form_name Form.Duration = codes "Duration"
form_name Form.Size = codes "Size"
form_name Form.Decimal = codes "Decimal"
form_name Form.KeyValue = codes "KeyValue"
form_name Form.Words = codes "Words"

-- a refusal as it is printed
abbrev pub refusal_text : FormRefusal → List ℕ
refusal_text (BadForm form) = codes "bad form: " ++ form_name form
refusal_text Memory = codes "memory"
