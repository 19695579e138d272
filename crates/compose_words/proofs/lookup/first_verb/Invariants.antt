use Rattle.std.proofs.Common.{◌≡◌, drop}
use Rattle.compose_words.specs.Lookups.{first_verb}
use Rattle.compose_words.proofs.lookup.first_verb.Given as goal

abbrev pub invariant-loop-item : goal.invariant-loop-item
invariant-loop-item l = first_verb (drop l.item-index l.items) ≡ first_verb l.items
