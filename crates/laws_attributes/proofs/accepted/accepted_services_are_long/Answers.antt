use Rattle.laws_attributes.proofs.LongServices.{accepted_long}
use Rattle.laws_attributes.proofs.accepted.accepted_services_are_long.Goals as goal

pub returns : goal.returns
returns c = accepted_long
