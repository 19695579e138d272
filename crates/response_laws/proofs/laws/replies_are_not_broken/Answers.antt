use Rattle.response_laws.proofs.Excluding.{replies_are_not_broken}
use Rattle.response_laws.proofs.laws.replies_are_not_broken.Goals as goal

pub returns : goal.returns
returns c = replies_are_not_broken
