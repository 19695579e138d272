-- What a hand tells of its exchanges, moment by moment, and that each outcome has its cause in its own exchange.
use Rattle.std.specs.Prelude.{◌≡◌, ℕ, ◌≤◌, List, [], ◌∷◌, Option}
use Rattle.engine_types.specs.declared.Exchange.{Exchange}
use Rattle.outside_api.specs.Hands.{Heard, HasCause, HearsEach, HearsMore, HearsNext, Logs}

-- what a hand tells by some moment: the log of its exchanges, what was heard in each, and how many failed on the way
pub record Account : Type 0 where
  pub log : List Exchange
  pub heard : Option (List Heard)
  pub faults : ℕ

-- the same, by its parts
abbrev pub account : List Exchange → Option (List Heard) → ℕ → Account
account log heard faults = record { log = log; heard = heard; faults = faults }

-- one exchange, by what was told before and after it: it is logged, what was heard in it is the last item, a fault is counted
-- only where it is logged, and its outcome has its cause in it
pub record IsCausedIn (exchange : Exchange) (old new : Account) : Type 0 where
  pub logged : Logs old.log exchange.request exchange.outcome new.log
  pub hears : HearsNext old.log new.log old.heard new.heard
  pub counted : old.faults ≤ new.faults
  pub unsent : new.log ≡ old.log → new.faults ≡ old.faults
  pub cause : HasCause exchange.request new.heard old.faults new.faults exchange.outcome

-- these exchanges one after another, each with its cause in it: an account stands between each two. Its log and what was
-- heard by then are beginnings of what is told in the end, and its count lies between those before and after
abbrev pub AreCaused : List Exchange → Account → Account → Type 0
AreCaused [] old new = new ≡ old
AreCaused (exchange ∷ rest) old new = (mid : Account) × IsCausedIn exchange old mid × AreCaused rest mid new

-- what was told before stays told: what was heard is still there, one item for each exchange of the log, and the count of
-- faults doesn't fall
pub record StaysTold (old new : Account) : Type 0 where
  pub heard : HearsMore old.heard new.heard
  pub heard_each : HearsEach old.log old.heard → HearsEach new.log new.heard
  pub counted : old.faults ≤ new.faults
