-- Nothing was looked at yet.
use Rattle.std.proofs.Common.{false, arith}
use Rattle.http_heads.proofs.Following.{nothing_followed}
use Rattle.http_heads.proofs.line_search.LineSearch.of_trailer.Goals as goal

pub returns-clause-followed : goal.returns-clause-followed
returns-clause-followed c = record { within = omega arith; few = omega arith; followed = nothing_followed false }
