use Rattle.response_laws.proofs.Excluding.{whole_is_not_broken}
use Rattle.response_laws.proofs.laws.whole_is_not_broken.Goals as goal

pub returns : goal.returns
returns c = whole_is_not_broken
