use Rattle.std.proofs.Common.{refl}
use Rattle.response_rules.specs.Lines.{trailer_part}
use Rattle.laws_bytes.proofs.MoreBytes.{trailer_part_stays}
use Rattle.laws_bytes.proofs.parts.trailers_stay.Goals as goal

pub returns : goal.returns
returns c = λ bytes more ended. trailer_part_stays bytes more (trailer_part bytes) refl ended
