use Rattle.std.proofs.Common.{rules}
use Rattle.memory_engine.specs.Ids.{image_id_text}
use Rattle.memory_engine.proofs.ids.image_id.Goals as goal

pub returns : goal.returns
unfolding image_id_text
returns c = search rules
