use Rattle.cut_laws.proofs.ObservationLaws.{each_is_asked}
use Rattle.run_laws.proofs.laws.each_exchange_is_asked.Goals as goal

pub returns : goal.returns
returns c = each_is_asked
