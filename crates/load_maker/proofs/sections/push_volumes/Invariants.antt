use Rattle.std.proofs.Common.{◌≡◌, ◌++◌}
use Rattle.std.specs.List.{flat_map, range_with_len}
use Rattle.load_maker.specs.Texts.{volume_line}
use Rattle.load_maker.proofs.sections.push_volumes.Given as goal

abbrev pub invariant-loop-service : goal.invariant-loop-service
invariant-loop-service l = l.text ≡ l.initial.text ++ flat_map volume_line (range_with_len 0 l.service)
