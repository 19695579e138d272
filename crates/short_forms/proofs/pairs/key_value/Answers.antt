use Rattle.std.proofs.Common.{◌≡◌, ◌∙◌, ap, sym, None, Some}
use Rattle.short_forms.specs.Cuts.{cut_once}
use Rattle.short_forms.specs.Pairs.{keyed, pair_of}
use Rattle.short_forms.specs.declared.form.Form.TheVariants.{KeyValue}
use Rattle.short_forms.proofs.AnswerLemmas.{gives_same}
use Rattle.short_forms.proofs.pairs.key_value.Goals as goal

pub returns-in-None : goal.returns-in-None
returns-in-None c =
    let text = c.args.text.now in
    let none : cut_once 61 text ≡ None = ap (cut_once 61) (sym c.as_str.ensures.value) ∙ sym c.in-None.ensures in
    gives_same KeyValue c.pair.result _ _ (ap (λ t. keyed t None) c.as_str-in-None.ensures.value ∙ ap (pair_of text) (sym none)) c.pair.ensures

pub returns-in_ok-from_str-in-Some : goal.returns-in_ok-from_str-in-Some
returns-in_ok-from_str-in-Some c =
    let text = c.args.text.now in
    let some : cut_once 61 text ≡ Some (c.in-Some.key.now, c.in-Some.value.now) = ap (cut_once 61) (sym c.as_str.ensures.value) ∙ sym c.in-Some.ensures in
    gives_same KeyValue c.pair-in-Some.result _ _
    (ap (λ v. keyed c.in-Some.key.now (Some v)) c.in_ok-from_str-in-Some.ensures ∙ ap (pair_of text) (sym some)) c.pair-in-Some.ensures
