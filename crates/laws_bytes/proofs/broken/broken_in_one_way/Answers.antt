use Rattle.laws_bytes.proofs.OneWay.{broken_one_way}
use Rattle.laws_bytes.proofs.broken.broken_in_one_way.Goals as goal

pub returns : goal.returns
returns c = λ request cause other read ended. broken_one_way request read ended cause other
