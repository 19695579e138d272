use Rattle.std.proofs.Common.{◌≡◌}
use Rattle.merge_rules.specs.UnderExtends.{unmarked}
use Rattle.merge_rules.proofs.AskedSteps.{entries_from, items_from}
use Rattle.merge_rules.proofs.under_extends.+unmarked.Given as goal

-- the values that are left are refused as all are
abbrev pub invariant-values_unmarked-loop-at : goal.invariant-values_unmarked-loop-at
invariant-values_unmarked-loop-at l = entries_from unmarked l.keys l.values l.at ≡ entries_from unmarked l.keys l.values 0

-- and so are the items
abbrev pub invariant-items_unmarked-loop-at : goal.invariant-items_unmarked-loop-at
invariant-items_unmarked-loop-at l = items_from l.items l.at ≡ items_from l.items 0
