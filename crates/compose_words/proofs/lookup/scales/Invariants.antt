use Rattle.std.proofs.Common.{◌≡◌, ◌++◌, drop}
use Rattle.compose_words.specs.Lookups.{values_given, scale_in}
use Rattle.compose_words.specs.declared.table.OptionName.{OptionName}
use Rattle.compose_words.proofs.lookup.scales.Given as goal

abbrev pub invariant-loop-item : goal.invariant-loop-item
invariant-loop-item l = l.scales ++ values_given scale_in OptionName.Scale (drop l.item-index l.items) ≡ values_given scale_in OptionName.Scale l.items
