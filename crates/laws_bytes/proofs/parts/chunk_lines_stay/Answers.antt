use Rattle.std.proofs.Common.{refl}
use Rattle.response_rules.specs.Lines.{chunk_line_part}
use Rattle.laws_bytes.proofs.MoreBytes.{chunk_line_part_stays}
use Rattle.laws_bytes.proofs.parts.chunk_lines_stay.Goals as goal

pub returns : goal.returns
returns c = λ bytes more ended. chunk_line_part_stays bytes more (chunk_line_part bytes) refl ended
