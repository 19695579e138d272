use Rattle.std.proofs.Common.{◌≡◌, true, take}
use Rattle.std.specs.List.{list_all}
use Rattle.merge_rules.specs.Laws.{own_keys}
use Rattle.project_keys.proofs.own_keys.+keys.Given as goal

abbrev pub invariant-show_all_own_keys-loop-tree : goal.invariant-show_all_own_keys-loop-tree
invariant-show_all_own_keys-loop-tree l = list_all own_keys (take l.tree-index l.trees) ≡ true
