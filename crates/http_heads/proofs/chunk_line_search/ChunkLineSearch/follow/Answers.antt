-- What was looked at before has no line feed.
use Rattle.http_heads.proofs.Feeding.{feed_past}
use Rattle.http_heads.proofs.chunk_line_search.ChunkLineSearch.follow.Goals as goal

pub loop-at-init : goal.loop-at-init
loop-at-init c = record {
  within = c.requires.within;
  past = feed_past c.args.bytes.now c.args.self.now.at c.requires.within c.requires.line;
}
