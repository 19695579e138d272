use Rattle.std.proofs.Common.{◌≡◌, ◌∙◌, ◌∷◌, [], ◌++◌, List, Option, Some, ap, sym}
use Rattle.std.specs.Option.{option_map}
use Rattle.tree_base.specs.declared.Tree.{Tree}
use Rattle.short_forms.specs.MountLaws.{long_mount}
use Rattle.short_forms.specs.Mounts.{mount_of}
use Rattle.short_forms.specs.declared.mounts.Mount.{Mount}
use Rattle.short_forms.specs.declared.form.Form.TheVariants as forms
use Rattle.long_forms.proofs.FormAnswers.{none_of, some_of}
use Rattle.long_forms.proofs.entries.with_mount.Goals as goal

abbrev behind : List Tree → Option Mount → Option (List Tree)
behind done mount = option_map (λ made. done ++ made) (option_map (λ mount. long_mount mount ∷ []) mount)

pub returns-in-Ok : goal.returns-in-Ok
returns-in-Ok c =
    let done = c.args.done in
    let read : mount_of c.args.text.now ≡ Some c.in-Ok.mount = some_of forms.Mount (mount_of c.args.text.now) c.in-Ok.mount c.in-Ok.ensures in
    let tree : c.in_ok-long_mount-in-Ok.field-0 ≡ long_mount c.in-Ok.mount = c.in_ok-long_mount-in-Ok.ensures in
    let all : c.in_ok-with_last-in-Ok.field-0 ≡ done ++ long_mount c.in-Ok.mount ∷ [] = cc (c.done.view_is, c.in_ok-with_last-in-Ok.ensures, tree) in
    ap Some all ∙ ap (behind done) (sym read)

pub returns-in-Err-BadForm : goal.returns-in-Err-BadForm
returns-in-Err-BadForm c =
    let e = rw c.in-Err-BadForm.field-0-is at c.in-Err-BadForm.ensures in
    ap (behind c.args.done) (sym (none_of forms.Mount c.in-Err-BadForm.field-0-0 (mount_of c.args.text.now) e))
