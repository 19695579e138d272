use Rattle.std.proofs.Common.{◌∙◌, ◌∷◌, ap, sym}
use Rattle.short_forms.specs.Mounts.{mount_from, mount_in}
use Rattle.short_forms.specs.declared.form.Form.TheVariants.{Mount}
use Rattle.short_forms.proofs.AnswerLemmas.{gives_same}
use Rattle.short_forms.proofs.CutLemmas.{split_cut, split_whole}
use Rattle.short_forms.proofs.mounts.mount_behind.Goals as goal

pub returns-in-None : goal.returns-in-None
returns-in-None c =
    gives_same Mount c.mount_from.result _ _
    (ap (mount_from c.args.source.now c.args.rest.now) c.plain.ensures ∙ ap (λ parts. mount_in (c.args.source.now ∷ parts)) (sym (split_whole 58 c.args.rest.now (sym c.in-None.ensures)))) c.mount_from.ensures

pub returns-in-Some : goal.returns-in-Some
returns-in-Some c =
    gives_same Mount c.mount_with.result _ _
    (ap (λ parts. mount_in (c.args.source.now ∷ parts)) (sym (split_cut 58 c.args.rest.now c.in-Some.target.now c.in-Some.mode.now (sym c.in-Some.ensures)))) c.mount_with.ensures
