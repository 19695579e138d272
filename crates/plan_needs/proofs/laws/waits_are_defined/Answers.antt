use Rattle.plan_needs.proofs.Counting.{optional_is, required_is, started_is}
use Rattle.plan_needs.proofs.laws.waits_are_defined.Goals as goal

pub returns : goal.returns
returns c = record { required = required_is; optional = optional_is; started = started_is }
