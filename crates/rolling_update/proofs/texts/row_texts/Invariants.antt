use Rattle.std.proofs.Common.{◌≡◌, map, take}
use Rattle.plan_core.specs.Finding.{container_text}
use Rattle.rolling_update.proofs.texts.row_texts.Given as goal

abbrev pub invariant-loop-row : goal.invariant-loop-row
invariant-loop-row l = l.texts ≡ map container_text (take l.row-index l.rows)
