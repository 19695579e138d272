-- What an exchange makes of an Engine in memory that hands share, and that may settle.
use Rattle.std.specs.Prelude.{◌≡◌, ◌⊎◌, Some}
use Rattle.engine_types.specs.declared.Engine.{Engine}
use Rattle.engine_types.specs.declared.Outcome.{Outcome}
use Rattle.engine_types.specs.declared.Request.{Request}
use Rattle.engine_hand.specs.Fates.{IsServed}
use Rattle.run_model.specs.EngineRules.{Drifts, Tells}
use Rattle.shared_hand.specs.declared.shared_engine.SharedEngine.{SharedEngine}
use Rattle.shared_hand.specs.Settling.{looks_after, settled}

-- the Engine that answers a request: it has settled first, if it does so
abbrev pub answering : SharedEngine → Request → Engine
answering shared request = settled shared.looked shared.engine.script shared.engine.engine request

-- memory was wanted before the Engine settled: it is as it was
pub record Stays (old : SharedEngine) (outcome : Outcome) (new : SharedEngine) : Type 0 where
  pub wanted : outcome ≡ Outcome.Memory
  pub engine : new.engine.engine ≡ old.engine.engine
  pub looked : new.looked ≡ old.looked

-- the Engine settled, by changes of its own alone, and then served the request, as an Engine may; where memory was wanted for
-- that, it has served it or stayed so
pub record Serves (old : SharedEngine) (request : Request) (outcome : Outcome)
    (new : SharedEngine) : Type 0 where
  pub drifts : Drifts old.engine.engine (answering old request)
  pub served : IsServed old.engine.catalogue (answering old request) request outcome new.engine.engine
  pub told : Tells (Some (answering old request)) request outcome (Some new.engine.engine)
  pub looked : new.looked ≡ looks_after old.looked old.engine.script old.engine.engine request

-- an exchange on an Engine that hands share: it settles and serves the request, or memory was wanted before
abbrev pub IsExchanged : SharedEngine → Request → Outcome → SharedEngine → Type 0
IsExchanged old request outcome new = Stays old outcome new ⊎ Serves old request outcome new
