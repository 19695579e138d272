-- Exchanges of which none was lost, and plans by which none is.
use Rattle.std.specs.Prelude.{◌≡◌, Bool, true, false, List, [], None}
use Rattle.std.specs.List.{list_all}
use Rattle.engine_types.specs.declared.Exchange.{Exchange}
use Rattle.engine_types.specs.declared.Outcome.{Outcome}
use Rattle.memory_engine.specs.declared.faults.FaultPlan.{FaultPlan}

-- whether an exchange was answered, or wanted memory
abbrev pub is_steady : Outcome → Bool
is_steady (Outcome.Answered reply) = true
is_steady (Outcome.Lost cause) = false
is_steady Outcome.NotSent = false
is_steady Outcome.Memory = true

-- whether all of these exchanges were
abbrev pub are_steady : List Exchange → Bool
are_steady exchanges = list_all (λ exchange. is_steady exchange.outcome) exchanges

-- a plan of faults loses nothing, sends everything, and asks no worker to stop
pub record IsWithoutFaults (plan : FaultPlan) : Type 0 where
  pub lost : plan.lost ≡ []
  pub unsent : plan.unsent ≡ []
  pub asked_from : plan.asked_from ≡ None
