use Rattle.std.proofs.Common.{◌≡◌, ℕ, List, [], take, map, filter, bytes_eq}
use Rattle.std.specs.HashMap.{get_by}
use Rattle.std.specs.Option.{option_map_or}
use Rattle.plan_core.proofs.text_index.grouped.Given as goal

abbrev pub invariant-loop-text : goal.invariant-loop-text
invariant-loop-text l = (text : List ℕ) → option_map_or (λ numbers. numbers.items) (get_by (λ key. bytes_eq text key.now) l.groups) [] ≡ map (λ entry. entry.1) (filter (λ entry. bytes_eq text entry.0.now) (take l.text-index l.entries))
