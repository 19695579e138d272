use Rattle.asked_target.proofs.Hosts.{good_hosts}
use Rattle.asked_target.proofs.laws.good_hosts_have_targets.Goals as goal

pub returns : goal.returns
returns c = good_hosts
