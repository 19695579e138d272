use Rattle.std.proofs.Common.{◌≡◌, ◌+◌, drop}
use Rattle.dotenv.specs.Files.{feed_len}
use Rattle.dotenv.proofs.file.feed_len.Given as goal

abbrev pub invariant-loop-at : goal.invariant-loop-at
invariant-loop-at l = l.at + feed_len (drop l.at l.bytes) ≡ feed_len l.bytes
