use Rattle.std.proofs.Common.{◌∙◌, ◌<◌, length, sym, ap, arith}
use Rattle.loaded_files.specs.EnvFiles.{with_all}
use Rattle.loaded_files.proofs.Laid.{next_laid, none_left, not_past}
use Rattle.loaded_files.proofs.variables.with_all.Goals as goal
use Rattle.loaded_files.proofs.variables.with_all.Goals.{in-Some+in_ok-put_copies, in_default}

pub loop-at-preserved : goal.loop-at-preserved
loop-at-preserved c =
    let more = c.args.more.now in
    elim c.match-pair.branch [
      | in-Some+in_ok-put_copies w ↦
          next_laid c.loop-at.all c.match-pair.all more c.loop-at.at w.in-Some.name.now w.in-Some.value.now (sym w.in-Some.ensures) (w.all-is ∙ w.in_ok-put_copies.ensures) ∙ c.loop-at.invariant
      | in_default w ↦
          let within : c.loop-at.at < length more = omega arith in
          absurd (not_past more c.loop-at.at within (sym w.in_default.ensures))
    ]

pub returns : goal.returns
returns c =
    sym (ap (with_all c.loop-at.all) (none_left c.args.more.now c.loop-at.at (omega arith))) ∙ c.loop-at.invariant
