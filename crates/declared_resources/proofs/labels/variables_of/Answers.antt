use Rattle.std.proofs.Common.{◌<◌, length, sym, arith}
use Rattle.declared_resources.proofs.Variables.{not_past, one_more}
use Rattle.declared_resources.proofs.labels.variables_of.Goals as goal
use Rattle.declared_resources.proofs.labels.variables_of.Goals.{in-Some+in_ok-push_variable, in_default}

pub loop-at-preserved : goal.loop-at-preserved
loop-at-preserved c =
    let entries = c.args.entries.now in
    let at = c.loop-at.at in
    elim c.match-pair.branch [
      | in-Some+in_ok-push_variable w ↦
          one_more entries at (w.in-Some.name.now, w.in-Some.value.now) (sym w.in-Some.ensures) c.loop-at.variables.items c.match-pair.variables.items c.loop-at.invariant
          (rw w.variables-is w.in_ok-push_variable.ensures)
      | in_default w ↦
          let within : at < length entries = omega arith in
          absurd (not_past entries at within (sym w.in_default.ensures))
    ]
