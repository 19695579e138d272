use Rattle.std.proofs.Common.{◌≡◌, ◌-◌, [], ◌++◌, length, drop}
use Rattle.compose_words.specs.Items.{items_from, items_of}
use Rattle.compose_words.specs.Refusals.{first_refusal}
use Rattle.compose_words.proofs.read.items_or_refusal.Given as goal

abbrev pub invariant-loop-word : goal.invariant-loop-word
invariant-loop-word l = record {
  whole : l.items ++ items_from l.at (drop l.at l.words) ≡ items_of l.words;
  refusal : first_refusal l.items (items_from l.at (drop l.at l.words)) ≡ first_refusal [] (items_of l.words);
}

abbrev pub decreases-loop-word : goal.decreases-loop-word
decreases-loop-word l = length l.words - l.at
