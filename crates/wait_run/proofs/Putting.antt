-- What the parts of an exchange are for a wait, and a slot that has no container.
use Rattle.std.proofs.Common.{◌≡◌, ◌∙◌, ◌⊎◌, inl, inr, ◌<◌, ℕ, true, false, List, Option, Some, None, Err, length, slice_get, refl, ap, subst}
use Rattle.std.specs.Option.{option_map}
use Rattle.engine_types.specs.declared.Declared.{Declared}
use Rattle.engine_types.specs.declared.Listed.{Listed}
use Rattle.engine_types.specs.declared.Outcome.{Outcome}
use Rattle.engine_types.specs.declared.Report.{Report}
use Rattle.engine_types.specs.declared.Request.{Request}
use Rattle.engine_types.specs.declared.Slot.{Slot}
use Rattle.wait_run.specs.Ends.{CameTo, failed_by, refused_by}
use Rattle.wait_run.specs.Goals.{FindsAll, failing_report}
use Rattle.wait_run.specs.Taking.{PutsGoal, goes_first, wants_memory}
use Rattle.wait_run.specs.declared.goals.Failing.{Failing}
use Rattle.wait_run.specs.declared.goals.Goals.{Goals}
use Rattle.wait_run.specs.declared.refusal.WaitRefusal.{WaitRefusal}
use Rattle.wait_run.proofs.Finding.{HasGoals, absent_next, name_is}

-- ---- the refusal of an exchange

pub refused_short : (request : Request) (outcome : Outcome) → wants_memory outcome ≡ true → WaitRefusal.Memory ≡ refused_by request outcome
refused_short request Outcome.Memory e = refl
refused_short request (Outcome.Answered reply) e = let bad : false ≡ true = e in absurd (cc bad)
refused_short request (Outcome.Lost cause) e = let bad : false ≡ true = e in absurd (cc bad)
refused_short request Outcome.NotSent e = let bad : false ≡ true = e in absurd (cc bad)

pub refused_else : (request : Request) (outcome : Outcome) → wants_memory outcome ≡ false → WaitRefusal.Request request outcome ≡ refused_by request outcome
refused_else request Outcome.Memory e = let bad : true ≡ false = e in absurd (cc bad)
refused_else request (Outcome.Answered reply) e = refl
refused_else request (Outcome.Lost cause) e = refl
refused_else request Outcome.NotSent e = refl

-- ---- a slot without container

pub absent_so : (declared : Declared) (rows : List Listed) (i : ℕ) (goals new_goals : Goals) (slot : Slot) → HasGoals declared rows i goals → slice_get declared.slots i ≡ Some slot → i < length declared.slots
    → (refusal : WaitRefusal) → PutsGoal declared.project rows slot goals new_goals (Err refusal) → FindsAll declared rows (Err refusal)
absent_so declared rows i goals new_goals slot has at less (WaitRefusal.NotThere name) puts = (
  i,
  absent_next declared rows i goals slot has at (ap (option_map (λ (row : Listed). row.id)) puts.0) less,
  puts.1 ∙ name_is declared rows i goals slot has at,
)
absent_so declared rows i goals new_goals slot has at less WaitRefusal.Memory puts = tt
absent_so declared rows i goals new_goals slot has at less (WaitRefusal.Stream fault) puts = absurd puts
absent_so declared rows i goals new_goals slot has at less (WaitRefusal.Request request outcome) puts = absurd puts
absent_so declared rows i goals new_goals slot has at less (WaitRefusal.Condition name condition report) puts = absurd puts

-- ---- why a wait ended

-- by a report, or for want of memory
pub failed_so : (declared : Declared) (one : ℕ × Report) (r : WaitRefusal) → (r ≡ WaitRefusal.Memory) ⊎ (r ≡ failed_by declared one)
    → (Some r ≡ Some WaitRefusal.Memory) ⊎ (Some r ≡ Some (failed_by declared one))
failed_so declared one r (inl e) = inl (ap Some e)
failed_so declared one r (inr e) = inr (ap Some e)

-- a report goes before all refusals but want of memory
pub came_first : (declared : Declared) (failed : Option Failing) (failing : Failing) (refusal : WaitRefusal) (r : WaitRefusal) → Some failing ≡ goes_first failed refusal
    → (r ≡ WaitRefusal.Memory) ⊎ (r ≡ failed_by declared (failing_report failing)) → CameTo declared (option_map failing_report failed) (Err refusal) (Some r)
came_first declared failed failing WaitRefusal.Memory r first why = let bad : Some failing ≡ None = first in absurd (cc bad)
came_first declared failed failing (WaitRefusal.NotThere slot) r first why =
    subst (λ o. CameTo declared (option_map failing_report o) (Err (WaitRefusal.NotThere slot)) (Some r)) first (failed_so declared (failing_report failing) r why)
came_first declared failed failing (WaitRefusal.Stream fault) r first why =
    subst (λ o. CameTo declared (option_map failing_report o) (Err (WaitRefusal.Stream fault)) (Some r)) first (failed_so declared (failing_report failing) r why)
came_first declared failed failing (WaitRefusal.Request request outcome) r first why =
    subst (λ o. CameTo declared (option_map failing_report o) (Err (WaitRefusal.Request request outcome)) (Some r)) first (failed_so declared (failing_report failing) r why)
came_first declared failed failing (WaitRefusal.Condition slot condition report) r first why =
    subst (λ o. CameTo declared (option_map failing_report o) (Err (WaitRefusal.Condition slot condition report)) (Some r)) first (failed_so declared (failing_report failing) r why)

-- with none before it, it is what the last step says
pub came_last : (declared : Declared) (failed : Option Failing) (refusal : WaitRefusal) → None ≡ goes_first failed refusal → CameTo declared (option_map failing_report failed) (Err refusal) (Some refusal)
came_last declared failed WaitRefusal.Memory none = refl
came_last declared failed (WaitRefusal.NotThere slot) none =
    subst (λ o. CameTo declared (option_map failing_report o) (Err (WaitRefusal.NotThere slot)) (Some (WaitRefusal.NotThere slot))) none refl
came_last declared failed (WaitRefusal.Stream fault) none =
    subst (λ o. CameTo declared (option_map failing_report o) (Err (WaitRefusal.Stream fault)) (Some (WaitRefusal.Stream fault))) none refl
came_last declared failed (WaitRefusal.Request request outcome) none =
    subst (λ o. CameTo declared (option_map failing_report o) (Err (WaitRefusal.Request request outcome)) (Some (WaitRefusal.Request request outcome))) none refl
came_last declared failed (WaitRefusal.Condition slot condition report) none =
    subst (λ o. CameTo declared (option_map failing_report o) (Err (WaitRefusal.Condition slot condition report)) (Some (WaitRefusal.Condition slot condition report))) none refl
