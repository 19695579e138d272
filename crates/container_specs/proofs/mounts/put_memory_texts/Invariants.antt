use Rattle.std.proofs.Common.{◌≡◌, ◌++◌, map, take}
use Rattle.short_forms.specs.Cuts.{cut_once}
use Rattle.container_specs.specs.Mounts.{memory_at}
use Rattle.container_specs.proofs.mounts.put_memory_texts.Given as goal

abbrev pub invariant-loop-text : goal.invariant-loop-text
invariant-loop-text l = l.paths ≡ l.fn.paths ++ map (λ text. memory_at text (cut_once 58 text)) (take l.text-index l.texts)
