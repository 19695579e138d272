use Rattle.std.proofs.Common.{◌≡◌, ◌++◌, drop}
use Rattle.compose_words.specs.Lookups.{values_given, text_in}
use Rattle.compose_words.proofs.lookup.texts.Given as goal

abbrev pub invariant-loop-item : goal.invariant-loop-item
invariant-loop-item l = l.texts ++ values_given text_in l.name (drop l.item-index l.items) ≡ values_given text_in l.name l.items
