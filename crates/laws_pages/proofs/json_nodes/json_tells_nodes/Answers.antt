use Rattle.laws_pages.proofs.Tells.{tells}
use Rattle.laws_pages.proofs.json_nodes.json_tells_nodes.Goals as goal

pub returns : goal.returns
returns c = tells
