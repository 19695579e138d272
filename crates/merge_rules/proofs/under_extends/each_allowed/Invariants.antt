use Rattle.std.proofs.Common.{◌≡◌}
use Rattle.merge_rules.specs.UnderExtends.{service_allowed}
use Rattle.merge_rules.proofs.AskedSteps.{entries_from}
use Rattle.merge_rules.proofs.under_extends.each_allowed.Given as goal

-- the services that are left are refused as all are
abbrev pub invariant-loop-at : goal.invariant-loop-at
invariant-loop-at l = entries_from service_allowed l.keys l.values l.at ≡ entries_from service_allowed l.keys l.values 0
