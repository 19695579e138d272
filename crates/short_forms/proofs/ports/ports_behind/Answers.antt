use Rattle.std.proofs.Common.{◌∷◌, ap, sym}
use Rattle.short_forms.specs.Ports.{ports_in}
use Rattle.short_forms.specs.declared.form.Form.TheVariants.{Port}
use Rattle.short_forms.proofs.AnswerLemmas.{gives_same}
use Rattle.short_forms.proofs.CutLemmas.{split_cut, split_whole}
use Rattle.short_forms.proofs.ports.ports_behind.Goals as goal

pub returns-in-None : goal.returns-in-None
returns-in-None c =
    gives_same Port c.published_of.result _ _
    (ap (λ parts. ports_in c.args.protocol.now (c.args.text.now ∷ parts)) (sym (split_whole 58 c.args.rest.now (sym c.in-None.ensures)))) c.published_of.ensures

pub returns-in-Some : goal.returns-in-Some
returns-in-Some c =
    gives_same Port c.ports_at.result _ _
    (ap (λ parts. ports_in c.args.protocol.now (c.args.text.now ∷ parts)) (sym (split_cut 58 c.args.rest.now c.in-Some.published.now c.in-Some.target.now (sym c.in-Some.ensures)))) c.ports_at.ensures
