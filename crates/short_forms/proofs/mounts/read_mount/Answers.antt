use Rattle.std.proofs.Common.{◌≡◌, ◌∙◌, ap, sym, None, Some}
use Rattle.short_forms.specs.Cuts.{cut_once}
use Rattle.short_forms.specs.Mounts.{mount_at, mount_in}
use Rattle.short_forms.specs.declared.form.Form.TheVariants.{Mount}
use Rattle.short_forms.specs.declared.mounts.MountKind.TheVariants.{Volume}
use Rattle.short_forms.proofs.AnswerLemmas.{gives_same}
use Rattle.short_forms.proofs.CutLemmas.{split_cut, split_whole}
use Rattle.short_forms.proofs.mounts.read_mount.Goals as goal

pub returns-in-None : goal.returns-in-None
returns-in-None c =
    let text = c.args.text.now in
    let none : cut_once 58 text ≡ None = ap (cut_once 58) (sym c.as_str.ensures.value) ∙ sym c.in-None.ensures in
    gives_same Mount c.mount_at.result _ _
    ((λ i. mount_at Volume None (c.as_str-in-None.ensures.value i) (c.plain.ensures i)) ∙ ap mount_in (sym (split_whole 58 text none))) c.mount_at.ensures

pub returns-in-Some : goal.returns-in-Some
returns-in-Some c =
    let text = c.args.text.now in
    let cut : cut_once 58 text ≡ Some (c.in-Some.source.now, c.in-Some.rest.now) = ap (cut_once 58) (sym c.as_str.ensures.value) ∙ sym c.in-Some.ensures in
    gives_same Mount c.mount_behind.result _ _ (ap mount_in (sym (split_cut 58 text c.in-Some.source.now c.in-Some.rest.now cut))) c.mount_behind.ensures
