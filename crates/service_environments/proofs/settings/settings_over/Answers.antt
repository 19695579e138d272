use Rattle.std.proofs.Common.{◌∙◌, ◌<◌, length, sym, ap, arith}
use Rattle.file_paths.specs.Resolving.{Entries}
use Rattle.loaded_files.proofs.Laid.{none_left, not_past}
use Rattle.service_environments.specs.Environments.{settings_over}
use Rattle.service_environments.proofs.Values.{next_setting}
use Rattle.service_environments.proofs.settings.settings_over.Goals as goal
use Rattle.service_environments.proofs.settings.settings_over.Goals.{in-Some+in_ok-put_setting, in_default}

pub loop-at-preserved : goal.loop-at-preserved
loop-at-preserved c =
    let entries = c.args.entries.now in
    elim c.match-pair.branch [
      | in-Some+in_ok-put_setting w ↦
          next_setting c.args.env.now c.loop-at.all c.match-pair.all entries c.loop-at.at w.in-Some.name.now w.in-Some.value.now (sym w.in-Some.ensures) (w.all-is ∙ w.in_ok-put_setting.ensures) ∙ c.loop-at.invariant
      | in_default w ↦
          let within : c.loop-at.at < length entries = omega arith in
          absurd (not_past entries c.loop-at.at within (sym w.in_default.ensures))
    ]

pub returns : goal.returns
returns c =
    sym (ap (λ (es : Entries). settings_over c.args.env.now es c.loop-at.all) (none_left c.args.entries.now c.loop-at.at (omega arith))) ∙ c.loop-at.invariant
