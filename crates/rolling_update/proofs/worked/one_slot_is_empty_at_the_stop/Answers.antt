use Rattle.std.proofs.Common.{refl}
use Rattle.std.specs.Fmt.{digits}
use Rattle.rolling_update.proofs.WorkedEngine.{legal, own, stopping, whole}
use Rattle.rolling_update.proofs.worked.one_slot_is_empty_at_the_stop.Goals as goal

pub returns : goal.returns
unfolding digits
returns c = record {
  whole = whole;
  own = own;
  legal = legal;
  world = record { journal = refl; world = stopping };
  begun = refl;
  undisturbed = tt;
  uncrossed = refl;
  before = refl;
  between = refl;
}
