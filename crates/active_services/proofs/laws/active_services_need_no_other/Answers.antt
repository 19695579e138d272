use Rattle.active_services.proofs.NeedsKept.{need_no_other}
use Rattle.active_services.proofs.laws.active_services_need_no_other.Goals as goal

pub returns : goal.returns
returns c = need_no_other
