use Rattle.std.proofs.Common.{◌≡◌, drop}
use Rattle.compose_words.specs.Lookups.{first_given, format_in}
use Rattle.compose_words.proofs.lookup.first_format.Given as goal

abbrev pub invariant-loop-item : goal.invariant-loop-item
invariant-loop-item l = first_given format_in l.name (drop l.item-index l.items) ≡ first_given format_in l.name l.items
