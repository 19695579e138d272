use Rattle.dotenv.proofs.Later.{later_wins}
use Rattle.dotenv.proofs.laws.later_line_wins.Goals as goal

pub returns : goal.returns
returns c = later_wins
