use Rattle.std.proofs.Common.{◌++◌}
use Rattle.laws_bytes.proofs.OneWay.{broken_one_way}
use Rattle.laws_bytes.proofs.StayingBroken.{broken_stays}
use Rattle.laws_bytes.proofs.broken.cuts_break_the_same.Goals as goal

pub returns : goal.returns
returns c = λ request cause other read more ended first all. broken_one_way request (read ++ more) ended cause other (broken_stays request cause read more ended first) all
