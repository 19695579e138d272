use Rattle.std.proofs.Common.{◌≡◌, ◌++◌, codes, take}
use Rattle.std.specs.List.{flat_map}
use Rattle.loading_words.proofs.cycle.push_later.Given as goal

abbrev pub invariant-loop-text : goal.invariant-loop-text
invariant-loop-text l = l.words ≡ l.fn.words ++ flat_map (λ later. codes ", " ++ later) (take l.text-index l.texts)
