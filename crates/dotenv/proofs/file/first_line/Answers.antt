use Rattle.std.proofs.Common.{arith}
use Rattle.dotenv.proofs.Ends.{last_line, more_lines}
use Rattle.dotenv.proofs.file.first_line.Goals as goal

pub returns-in-empty-clause-lines : goal.returns-in-empty-clause-lines
returns-in-empty-clause-lines c =
    last_line c.args.bytes.now c.split_at.result.0.now c.split_at.result.1.now c.feed_len.result c.requires c.feed_len.ensures.is c.split_at.ensures.front c.split_at.ensures.back (omega arith)

pub returns-in-len1-up-clause-lines : goal.returns-in-len1-up-clause-lines
returns-in-len1-up-clause-lines c =
    more_lines c.args.bytes.now c.split_at.result.0.now c.split_at.result.1.now c.without_return.result.now c.feed_len.result c.feed_len.ensures.is c.split_at.ensures.front c.split_at.ensures.back (omega arith) c.without_return.ensures
