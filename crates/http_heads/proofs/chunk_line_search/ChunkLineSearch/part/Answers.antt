-- All bytes were looked at, and no line feed is among them.
use Rattle.std.proofs.Common.{◌≡◌, length, arith}
use Rattle.http_heads.proofs.Feeding.{line_goes_on}
use Rattle.http_heads.proofs.chunk_line_search.ChunkLineSearch.part.Goals as goal
use Rattle.http_heads.proofs.chunk_line_search.ChunkLineSearch.part.Goals.{else-self-bytes-via-then-self-bytes+else-self-lt-MOST_HEAD_BYTES, else-self-bytes-via-else-self-bytes}

pub returns-else-bytes-gt-MOST_HEAD_BYTES-clause-followed : goal.returns-else-bytes-gt-MOST_HEAD_BYTES-clause-followed
returns-else-bytes-gt-MOST_HEAD_BYTES-clause-followed c =
    let all : c.follow.new.self.at ≡ length c.args.bytes.now =
    elim c.else-self-bytes.branch [
      | else-self-bytes-via-then-self-bytes+else-self-lt-MOST_HEAD_BYTES w ↦ omega arith
      | else-self-bytes-via-else-self-bytes w ↦ omega arith
    ] in
    λ e. record {
      within = c.follow.ensures.within;
      line = line_goes_on c.args.bytes.now c.follow.new.self.at c.follow.ensures.at all;
    }
