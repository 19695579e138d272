use Rattle.std.proofs.Common.{◌≡◌, ◌++◌}
use Rattle.std.specs.List.{flat_map, range_with_len}
use Rattle.load_maker.specs.Texts.{network_line}
use Rattle.load_maker.proofs.sections.push_networks.Given as goal

abbrev pub invariant-loop-network : goal.invariant-loop-network
invariant-loop-network l = l.text ≡ l.initial.text ++ flat_map (network_line l.number) (range_with_len 0 l.network)
