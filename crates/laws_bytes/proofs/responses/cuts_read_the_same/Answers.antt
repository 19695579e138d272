use Rattle.laws_bytes.proofs.Staying.{same}
use Rattle.laws_bytes.proofs.responses.cuts_read_the_same.Goals as goal

pub returns : goal.returns
returns c = same
