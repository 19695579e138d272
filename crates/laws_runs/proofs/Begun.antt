-- What a run that began keeps.
use Rattle.std.proofs.Common.{◌≡◌, List, ◌∷◌, refl, sym, ap, ◌∙◌, subst}
use Rattle.engine_types.specs.declared.Entry.{Entry}
use Rattle.engine_types.specs.declared.Observed.{Observed}
use Rattle.engine_types.specs.declared.Seen.{Seen}
use Rattle.engine_types.specs.declared.SeenEnd.{SeenEnd}
use Rattle.run_model.specs.Plans.{HasPlan}
use Rattle.run_model.specs.Runs.{unseen}
use Rattle.laws_runs.specs.GrantLaws.{IsPlannedFor}
use Rattle.laws_runs.proofs.Granted.{grants_ask}
use Rattle.journal_laws.specs.Courses.{Course, entries, first_seen, setup_of}
use Rattle.laws_runs.specs.Begun.{BeganWith}
use Rattle.laws_runs.specs.BeginLaws.{BegunGrantsHaveRequests, BegunRunsEnd, BegunRunsHavePlans}
use Rattle.laws_runs.proofs.Aims.{basis_with}
use Rattle.run_ends.proofs.Leaving.{left_ends}

abbrev seen_by_end : SeenEnd → Seen
seen_by_end (SeenEnd.Good seen) = seen
seen_by_end (SeenEnd.Bad fault) = unseen

ends_so : (observed : Observed) (rest : List Entry) (end : SeenEnd) → observed.end ≡ end → first_seen (Entry.Seen observed ∷ rest) ≡ seen_by_end end
ends_so observed rest (SeenEnd.Good seen) e = rw e refl
ends_so observed rest (SeenEnd.Bad fault) e = rw e refl

module _ (observed : Observed) (run : Course) (began : BeganWith observed run) where
  -- what the run is of was seen by its observation
  saw : (setup_of run).seen ≡ began.may.seen
  saw = ap first_seen began.journal ∙ ends_so observed began.rest (SeenEnd.Good began.may.seen) began.may.good

  planned : HasPlan (basis_with run.declared (setup_of run).seen began.may.aim) run.plan.actions
  planned = subst (λ (seen : Seen). HasPlan (basis_with run.declared seen began.may.aim) run.plan.actions) (sym saw) began.may.has_plan

  planned_for : IsPlannedFor began.may.aim (setup_of run)
  planned_for = record { whole = began.may.whole; has_plan = planned; waits_up = began.may.waits_up }

pub have_plans : BegunRunsHavePlans
have_plans observed run began = (saw observed run began, planned observed run began)

pub have_requests : BegunGrantsHaveRequests
have_requests = record {
  actions = λ observed run w a began legal may e. grants_ask.actions began.may.aim (setup_of run) (entries run) w a (planned_for observed run began) legal may.begun e;
  polls = λ observed run w s began legal may e. grants_ask.polls began.may.aim (setup_of run) (entries run) w s (planned_for observed run began) legal may.begun e;
}

pub runs_end : BegunRunsEnd
runs_end aim observed run began legal left = left_ends aim (setup_of run) (entries run) began.may.some_worker began.may.whole began.may.orderly legal left
