use Rattle.laws_pages.proofs.JsonNodePages.{pages_tell}
use Rattle.laws_pages.proofs.json_nodes.json_pages_tell_nodes.Goals as goal

pub returns : goal.returns
returns c = pages_tell
