use Rattle.attribute_paths.proofs.Lines.{none_named}
use Rattle.attribute_paths.proofs.laws.other_keys_hold_nothing.Goals as goal

pub returns : goal.returns
returns c = λ key lines h. none_named key lines h
