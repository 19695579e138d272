use Rattle.std.proofs.Common.{◌++◌}
use Rattle.response_laws.proofs.Excluding.{replies_are_not_broken}
use Rattle.laws_bytes.proofs.StayingBroken.{broken_stays}
use Rattle.laws_bytes.proofs.broken.broken_gives_no_reply.Goals as goal

pub returns : goal.returns
returns c = λ request cause reply read more ended first whole. replies_are_not_broken request (read ++ more) ended reply cause whole (broken_stays request cause read more ended first)
