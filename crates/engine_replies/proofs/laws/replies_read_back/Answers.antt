use Rattle.engine_replies.proofs.Back as laws
use Rattle.engine_replies.proofs.laws.replies_read_back.Goals as goal

pub returns : goal.returns
returns c = laws.replies_read_back
