use Rattle.std.proofs.Common.{◌∙◌, ap, sym}
use Rattle.std.specs.Option.{option_and_then}
use Rattle.short_forms.specs.Mounts.{mode_of, mount_from}
use Rattle.short_forms.specs.declared.form.Form.TheVariants.{Mount}
use Rattle.short_forms.specs.Answers.{answer_of}
use Rattle.short_forms.proofs.AnswerLemmas.{given_value, gives_passed, gives_same}
use Rattle.short_forms.proofs.MountLemmas.{is_mode_part, third_colon}
use Rattle.short_forms.proofs.mounts.mount_with.Goals as goal

pub returns-in_err-read_mode-in-None : goal.returns-in_err-read_mode-in-None
returns-in_err-read_mode-in-None c =
    let part = is_mode_part c.args.source.now c.args.target.now c.args.mode.now (sym c.in-None.ensures) in
    gives_passed Mount c.from_residual.result c.in_err-read_mode-in-None.field-0.0 (mode_of c.args.mode.now) _ c.from_residual.ensures.1
    (λ none. part ∙ ap (option_and_then (mount_from c.args.source.now c.args.target.now)) none) c.in_err-read_mode-in-None.ensures

pub returns-in_ok-read_mode-in-None : goal.returns-in_ok-read_mode-in-None
returns-in_ok-read_mode-in-None c =
    let part = is_mode_part c.args.source.now c.args.target.now c.args.mode.now (sym c.in-None.ensures) in
    let mode = given_value Mount c.in_ok-read_mode-in-None.field-0 (mode_of c.args.mode.now) c.in_ok-read_mode-in-None.ensures in
    gives_same Mount c.mount_from.result _ _ (sym (part ∙ ap (option_and_then (mount_from c.args.source.now c.args.target.now)) mode)) c.mount_from.ensures

pub returns-in-Some : goal.returns-in-Some
returns-in-Some c =
    let cut = c.in-Some.field-0 in
    ap (answer_of Mount) (third_colon c.args.source.now c.args.target.now c.args.mode.now cut.0.now cut.1.now (sym c.in-Some.ensures))
