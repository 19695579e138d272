use Rattle.std.proofs.Common.{◌≤◌, drop}
use Rattle.yaml_lines.proofs.PlainSteps.{EndsAt}
use Rattle.yaml_lines.specs.Plain.{plain_len}
use Rattle.yaml_lines.proofs.plain.plain_len.Given as goal

abbrev pub invariant-loop-at : goal.invariant-loop-at
invariant-loop-at l = record { within : l.end ≤ l.at; is : EndsAt l.context l.white l.at l.end (drop l.at l.chars) (plain_len l.context l.chars) }
