-- What a worker's hand tells, and what an exchange and a pause make of it.
use Rattle.std.specs.Prelude.{◌≡◌, ℕ, List, Option}
use Rattle.engine_types.specs.declared.Engine.{Engine}
use Rattle.engine_types.specs.declared.Exchange.{Exchange}
use Rattle.engine_types.specs.declared.Outcome.{Outcome}
use Rattle.engine_types.specs.declared.Request.{Request}
use Rattle.outside_api.specs.Accounts.{Account, IsCausedIn, account}
use Rattle.outside_api.specs.Clock.{Clock, after_pause}
use Rattle.outside_api.specs.Hands.{Heard}
use Rattle.run_model.specs.EngineRules.{DriftsTold, Tells}

-- what a hand tells: its log, what it heard, its count of faults, its clock, and its Engine
pub record Telling : Type 0 where
  pub log : List Exchange
  pub heard : Option (List Heard)
  pub faults : ℕ
  pub clock : Clock
  pub engine : Option Engine

-- the same, by its parts
abbrev pub telling : List Exchange → Option (List Heard) → ℕ → Clock → Option Engine → Telling
telling log heard faults clock engine = record {
  log = log;
  heard = heard;
  faults = faults;
  clock = clock;
  engine = engine;
}

-- what it tells of its exchanges
abbrev pub account_in : Telling → Account
account_in telling = account telling.log telling.heard telling.faults

-- what an exchange makes of what the hand tells
pub record Exchanges (request : Request) (outcome : Outcome) (old new : Telling) : Type 0 where
  pub told : Tells old.engine request outcome new.engine
  pub caused : IsCausedIn (record { request = request; outcome = outcome }) (account_in old)
      (account_in new)
  pub timed : new.clock ≡ old.clock

-- what a pause of so many milliseconds makes of it
pub record Pauses (milliseconds : ℕ) (old new : Telling) : Type 0 where
  pub told : DriftsTold old.engine new.engine
  pub silent : account_in new ≡ account_in old
  pub timed : new.clock ≡ after_pause old.clock milliseconds
