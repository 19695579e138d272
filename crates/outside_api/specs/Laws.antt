-- What holds of all hands.
use Rattle.std.specs.Prelude.{List}
use Rattle.engine_types.specs.declared.Exchange.{Exchange}
use Rattle.outside_api.specs.Accounts.{Account, AreCaused, StaysTold}

-- over exchanges that each have their cause, what was told before stays told
abbrev pub CausedStaysTold : Type 0
CausedStaysTold = (exchanges : List Exchange) (old new : Account) → AreCaused exchanges old new → StaysTold old new
