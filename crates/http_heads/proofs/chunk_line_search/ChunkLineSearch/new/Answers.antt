-- Nothing was looked at yet.
use Rattle.std.proofs.Common.{refl, arith}
use Rattle.http_heads.proofs.chunk_line_search.ChunkLineSearch.new.Goals as goal

pub returns : goal.returns
returns c = record { within = omega arith; line = refl }
