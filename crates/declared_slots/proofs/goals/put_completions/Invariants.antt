use Rattle.std.proofs.Common.{◌≡◌, ◌||◌, ℕ, List, map, take}
use Rattle.std.specs.Prelude.{filter}
use Rattle.attribute_scalars.specs.Walks.{is_in}
use Rattle.declared_slots.specs.Goals.{waits_for_completion}
use Rattle.declared_slots.proofs.goals.put_completions.Given as goal

abbrev pub invariant-loop-dependency : goal.invariant-loop-dependency
invariant-loop-dependency l = (key : List ℕ)
    → is_in l.keys.keys key ≡ (is_in l.fn.keys.keys key || is_in (map (λ dependency. dependency.key) (filter waits_for_completion (take l.dependency-index l.dependencies))) key)
