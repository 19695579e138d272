use Rattle.std.proofs.Common.{◌≡◌, take}
use Rattle.std.specs.Prelude.{flat_map}
use Rattle.plan_core.specs.Index.{numbers_under, seen_texts}
use Rattle.plan_core.proofs.text_index.all_found.Given as goal

abbrev pub invariant-loop-text : goal.invariant-loop-text
invariant-loop-text l = l.found.items ≡ flat_map (numbers_under l.index) (seen_texts (take l.text-index l.texts))
