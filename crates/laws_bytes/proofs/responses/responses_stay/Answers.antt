use Rattle.laws_bytes.proofs.Staying.{stays}
use Rattle.laws_bytes.proofs.responses.responses_stay.Goals as goal

pub returns : goal.returns
returns c = stays
