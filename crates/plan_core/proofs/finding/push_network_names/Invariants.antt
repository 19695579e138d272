use Rattle.std.proofs.Common.{◌≡◌, ◌++◌, map, take}
use Rattle.run_model.specs.Plans.{network_name}
use Rattle.plan_core.specs.Index.{seen_texts}
use Rattle.plan_core.proofs.finding.push_network_names.Given as goal

abbrev pub invariant-loop-attach : goal.invariant-loop-attach
invariant-loop-attach l = seen_texts l.texts.items ≡ seen_texts l.initial.texts.items ++ map (network_name l.declared) (take l.attach-index l.attaches)
