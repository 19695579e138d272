use Rattle.laws_bytes.proofs.StayingBroken.{breaks_stay}
use Rattle.laws_bytes.proofs.broken.faults_stay.Goals as goal

pub returns : goal.returns
returns c = λ read more ended later cause other breaks. breaks_stay read more ended later cause breaks (λ over. other)
