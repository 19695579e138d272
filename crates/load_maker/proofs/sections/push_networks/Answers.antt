use Rattle.load_maker.specs.Texts.{network_line}
use Rattle.load_maker.proofs.Rows.{lines_more}
use Rattle.load_maker.proofs.sections.push_networks.Goals as goal

pub loop-network-preserved : goal.loop-network-preserved
loop-network-preserved c = lines_more (network_line c.args.number) c.args.text.now c.loop-network.text _ c.loop-network.network c.loop-network.invariant c.in_ok-push_network.ensures
