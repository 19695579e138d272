use Rattle.laws_bytes.proofs.StayingBroken.{broken_stays}
use Rattle.laws_bytes.proofs.broken.broken_stays.Goals as goal

pub returns : goal.returns
returns c = broken_stays
