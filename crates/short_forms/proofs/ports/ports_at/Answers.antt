use Rattle.std.proofs.Common.{◌∷◌, ap, sym}
use Rattle.short_forms.specs.Answers.{answer_of}
use Rattle.short_forms.specs.Ports.{ports_in}
use Rattle.short_forms.specs.declared.form.Form.TheVariants.{Port}
use Rattle.short_forms.proofs.AnswerLemmas.{gives_same}
use Rattle.short_forms.proofs.CutLemmas.{split_whole}
use Rattle.short_forms.proofs.PortLemmas.{third_colon}
use Rattle.short_forms.proofs.ports.ports_at.Goals as goal

pub returns-in-None : goal.returns-in-None
returns-in-None c =
    gives_same Port c.at_address.result _ _
    (ap (λ parts. ports_in c.args.protocol.now (c.args.address.now ∷ c.args.text.now ∷ parts)) (sym (split_whole 58 c.args.target.now (sym c.in-None.ensures)))) c.at_address.ensures

pub returns-in-Some : goal.returns-in-Some
returns-in-Some c =
    let cut = c.in-Some.field-0 in
    ap (answer_of Port) (third_colon c.args.protocol.now c.args.address.now c.args.text.now c.args.target.now cut.0.now cut.1.now (sym c.in-Some.ensures))
