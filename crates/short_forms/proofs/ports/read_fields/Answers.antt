use Rattle.std.proofs.Common.{ap, sym}
use Rattle.short_forms.specs.Ports.{ports_in}
use Rattle.short_forms.specs.declared.form.Form.TheVariants.{Port}
use Rattle.short_forms.proofs.AnswerLemmas.{gives_same}
use Rattle.short_forms.proofs.CutLemmas.{split_cut, split_whole}
use Rattle.short_forms.proofs.ports.read_fields.Goals as goal

pub returns-in-None : goal.returns-in-None
returns-in-None c =
    gives_same Port c.unpublished.result _ _
    (ap (ports_in c.args.protocol.now) (sym (split_whole 58 c.args.fields.now (sym c.in-None.ensures)))) c.unpublished.ensures

pub returns-in-Some : goal.returns-in-Some
returns-in-Some c =
    gives_same Port c.ports_behind.result _ _
    (ap (ports_in c.args.protocol.now) (sym (split_cut 58 c.args.fields.now c.in-Some.text.now c.in-Some.rest.now (sym c.in-Some.ensures)))) c.ports_behind.ensures
