-- Where a hand stands, and what it tells of the exchanges that it went through.
use Rattle.std.specs.Prelude.{◌≡◌, ℕ, List, Option}
use Rattle.engine_types.specs.declared.Engine.{Engine}
use Rattle.engine_types.specs.declared.Exchange.{Exchange}
use Rattle.run_model.specs.EngineRules.{ToldBy}
use Rattle.run_model.specs.Logs.{GrowsBy}
use Rattle.outside_api.specs.Accounts.{Account, AreCaused, account}
use Rattle.outside_api.specs.Clock.{Clock}
use Rattle.outside_api.specs.Hands.{Heard}

-- where a hand stands
pub record Standing : Type 0 where
  pub log : List Exchange
  pub engine : Option Engine
  pub heard : Option (List Heard)
  pub faults : ℕ
  pub clock : Clock

-- where a hand stands, by its ghost members
abbrev pub standing : List Exchange → Option Engine → Option (List Heard) → ℕ → Clock → Standing
standing log engine heard faults clock = record {
  log = log;
  engine = engine;
  heard = heard;
  faults = faults;
  clock = clock;
}

-- what it tells of its exchanges
abbrev pub account_of : Standing → Account
account_of s = account s.log s.heard s.faults

-- a hand went through these exchanges
pub record Makes (made : List Exchange) (old new : Standing) : Type 0 where
  pub log : GrowsBy made old.log new.log
  pub told : ToldBy made old.engine new.engine
  pub caused : AreCaused made (account_of old) (account_of new)
  pub clock : new.clock ≡ old.clock
