use Rattle.std.proofs.Common.{◌≡◌, map, take}
use Rattle.plan_core.specs.Finding.{container_text}
use Rattle.plan_core.proofs.slot_texts.container_texts.Given as goal

abbrev pub invariant-loop-row : goal.invariant-loop-row
invariant-loop-row l = l.texts ≡ map container_text (take l.row-index l.rows)
