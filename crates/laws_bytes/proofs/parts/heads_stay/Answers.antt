use Rattle.std.proofs.Common.{refl}
use Rattle.response_rules.specs.Lines.{head_part}
use Rattle.laws_bytes.proofs.MoreBytes.{head_part_stays}
use Rattle.laws_bytes.proofs.parts.heads_stay.Goals as goal

pub returns : goal.returns
returns c = λ before bytes more ended. head_part_stays before bytes more (head_part before bytes) refl ended
