use Rattle.dotenv.proofs.ReadingBack.{read_back}
use Rattle.dotenv.proofs.laws.double_quotes_read_back.Goals as goal

pub returns : goal.returns
returns c = read_back
