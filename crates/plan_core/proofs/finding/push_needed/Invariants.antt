use Rattle.std.proofs.Common.{◌≡◌, ◌++◌, map, take}
use Rattle.engine_types.specs.declared.Need.{Need}
use Rattle.plan_core.specs.Finding.{slot_name_at}
use Rattle.plan_core.specs.Index.{seen_texts}
use Rattle.plan_core.proofs.finding.push_needed.Given as goal

abbrev pub invariant-loop-need : goal.invariant-loop-need
invariant-loop-need l =
    seen_texts l.texts.items ≡ seen_texts l.initial.texts.items ++ map (λ (need : Need). slot_name_at l.declared need.slot) (take l.need-index l.needs)
