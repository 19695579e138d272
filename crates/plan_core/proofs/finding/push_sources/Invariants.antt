use Rattle.std.proofs.Common.{◌≡◌, ℕ, ◌==◌, ◌++◌, map, take}
use Rattle.std.specs.List.{before_first}
use Rattle.plan_core.specs.Index.{seen_texts}
use Rattle.plan_core.proofs.finding.push_sources.Given as goal

abbrev pub invariant-loop-bind : goal.invariant-loop-bind
invariant-loop-bind l = seen_texts l.texts.items ≡ seen_texts l.initial.texts.items ++ map (before_first (λ (byte : ℕ). byte == 58)) (take l.bind-index l.binds)
