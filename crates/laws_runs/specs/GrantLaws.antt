-- That whatever is granted has a request.
use Rattle.std.specs.Prelude.{◌≡◌, ℕ, true, List, is_some}
use Rattle.engine_types.specs.declared.Aim.{Aim}
use Rattle.engine_types.specs.declared.Entry.{Entry}
use Rattle.run_model.specs.Journals.{Setup, seen_in}
use Rattle.run_model.specs.Legal.{IsLegal, Look, Take, decision}
use Rattle.run_model.specs.Observation.{is_up}
use Rattle.run_model.specs.Plans.{HasPlan, IsWhole}
use Rattle.run_model.specs.Requests.{action_request, poll_request}

-- a run with a plan for this aim: its declared set is whole, and it waits for goals only where it brings a project up
pub record IsPlannedFor (aim : Aim) (setup : Setup) : Type 0 where
  pub whole : IsWhole setup.declared
  pub has_plan :
      HasPlan (record { declared = setup.declared; seen = setup.seen; aim = aim }) setup.actions
  pub waits_up : setup.limits.wait ≡ true → is_up aim.purpose ≡ true

-- where the observation of a planned run ended well, an action that an ask is answered with has a request, and a slot that an
-- ask is answered with has a container to be polled
pub record GrantsHaveRequests : Type 0 where
  pub actions : (aim : Aim) (setup : Setup) (past : List Entry) (w a : ℕ)
      → IsPlannedFor aim setup → IsLegal aim setup past → is_some (seen_in past) ≡ true
      → decision setup past w ≡ Take a
      → is_some (action_request setup past a) ≡ true
  pub polls : (aim : Aim) (setup : Setup) (past : List Entry) (w s : ℕ)
      → IsPlannedFor aim setup → IsLegal aim setup past → is_some (seen_in past) ≡ true
      → decision setup past w ≡ Look s
      → is_some (poll_request setup past s) ≡ true
