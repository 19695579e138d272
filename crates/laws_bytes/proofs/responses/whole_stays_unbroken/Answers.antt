use Rattle.laws_bytes.proofs.Staying.{unbroken}
use Rattle.laws_bytes.proofs.responses.whole_stays_unbroken.Goals as goal

pub returns : goal.returns
returns c = unbroken
