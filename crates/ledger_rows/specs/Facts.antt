-- What the conditions of a run rest on, and what is blocked, as the one answer to an equation.
use Rattle.std.specs.Prelude.{◌≡◌, ℕ, ◌+◌, Bool, true, false, not, if◌then◌else◌, ◌&&◌, ◌||◌, ◌==◌, List}
use Rattle.std.specs.List.{list_any, list_all}
use Rattle.std.specs.Option.{option_map_or}
use Rattle.engine_types.specs.declared.Condition.{Condition}
use Rattle.engine_types.specs.declared.Entry.{Entry}
use Rattle.engine_types.specs.declared.Need.{Need}
use Rattle.run_model.specs.Conditions.{has_failed, is_started, was_met}
use Rattle.run_model.specs.Journals.{Setup, Standing, is_badly, is_free, is_well, standing}
use Rattle.run_model.specs.Plans.{kind_of, needs_of, slot_needs, start_of}
use Rattle.run_model.specs.Numbers.{places}
use Rattle.ledger_rows.specs.Counts.{counted, summed}

-- how the actions stand, and which conditions some report failed or met
pub record Facts : Type 0 where
  pub stands : ℕ → Standing
  pub failed : ℕ → Condition → Bool
  pub met : ℕ → Condition → Bool

-- what these entries say
abbrev pub facts_of : Setup → List Entry → Facts
facts_of setup past = record {
  stands = standing setup past;
  failed = has_failed setup past;
  met = was_met setup past;
}

-- whether an action ended otherwise than well, or is blocked, as this says
abbrev pub lost_by : Facts → (ℕ → Bool) → ℕ → Bool
lost_by facts blocked a = is_badly (facts.stands a) || blocked a

-- whether the start of a slot is lost
abbrev pub start_lost_by : Setup → Facts → (ℕ → Bool) → ℕ → Bool
start_lost_by setup facts blocked s =
    option_map_or (lost_by facts blocked) (start_of setup.actions s) false

-- whether a required need can no longer be met
abbrev pub need_lost_by : Setup → Facts → (ℕ → Bool) → Need → Bool
need_lost_by setup facts blocked need =
    need.required
    && (facts.failed need.slot need.condition || start_lost_by setup facts blocked need.slot)

-- whether something stands in an action's way for good
abbrev pub has_cause : Setup → Facts → (ℕ → Bool) → ℕ → Bool
has_cause setup facts blocked a =
    list_any (lost_by facts blocked) (needs_of setup.actions a)
    || list_any (need_lost_by setup facts blocked)
    (slot_needs setup.declared (kind_of setup.actions a))

-- exactly these actions are blocked: each is free, and something stands in its way for good
pub record AreBlocked (setup : Setup) (facts : Facts) (blocked : ℕ → Bool) : Type 0 where
  pub each : (a : ℕ)
      → blocked a ≡ (is_free (facts.stands a) && has_cause setup facts blocked a)

-- whether reports on a slot count
abbrev pub counts_by : Setup → Facts → ℕ → Bool
counts_by setup facts s =
    option_map_or (λ a. is_well (facts.stands a)) (start_of setup.actions s) true

-- whether a condition on a slot is met
abbrev pub met_by : Setup → Facts → ℕ → Condition → Bool
met_by setup facts s Condition.Started = counts_by setup facts s
met_by setup facts s condition = not (facts.failed s condition) && facts.met s condition

-- whether a slot's need lets its start go
abbrev pub lets_by : Setup → Facts → (ℕ → Bool) → Need → Bool
lets_by setup facts blocked need =
    met_by setup facts need.slot need.condition
    || (not need.required
    && (facts.failed need.slot need.condition || start_lost_by setup facts blocked need.slot))

-- how many of its needs keep an action from being claimed
abbrev pub open_needs : Setup → Facts → (ℕ → Bool) → ℕ → ℕ
open_needs setup facts blocked a =
    counted (λ b. not (is_well (facts.stands b))) (needs_of setup.actions a)
    + counted (λ need. not (lets_by setup facts blocked need))
    (slot_needs setup.declared (kind_of setup.actions a))

-- whether an action may be claimed
abbrev pub allowed_by : Setup → Facts → (ℕ → Bool) → ℕ → Bool
allowed_by setup facts blocked a =
    is_free (facts.stands a)
    && list_all (λ b. is_well (facts.stands b)) (needs_of setup.actions a)
    && list_all (lets_by setup facts blocked)
    (slot_needs setup.declared (kind_of setup.actions a))

-- what reports say: none fails Started, and what is failed or met on a slot was reported where its reports count
pub record AreSound (setup : Setup) (facts : Facts) : Type 0 where
  pub started : (s : ℕ) → facts.failed s Condition.Started ≡ false
  pub failed : (s : ℕ) (c : Condition) → facts.failed s c ≡ true → counts_by setup facts s ≡ true
  pub met : (s : ℕ) (c : Condition) → facts.met s c ≡ true → counts_by setup facts s ≡ true

-- only one action stands otherwise
pub record ChangesOne (old new : Facts) (b : ℕ) : Type 0 where
  pub others : (a : ℕ) → (a ≡ b → ⊥) → new.stands a ≡ old.stands a
  pub failed : new.failed ≡ old.failed
  pub met : new.met ≡ old.met

-- whether two conditions are the same
abbrev pub same_condition : Condition → Condition → Bool
same_condition Condition.Started Condition.Started = true
same_condition Condition.Healthy Condition.Healthy = true
same_condition Condition.Completed Condition.Completed = true
same_condition Condition.Running Condition.Running = true
same_condition _ _ = false

-- only this condition of this slot was met since, which hasn't failed; what is said to have met Started doesn't matter
pub record MeetsOne (old new : Facts) (s : ℕ) (c : Condition) : Type 0 where
  pub stands : new.stands ≡ old.stands
  pub failed : new.failed ≡ old.failed
  pub others : (t : ℕ) (d : Condition) → ((t == s) && same_condition d c) ≡ false
      → is_started d ≡ false → new.met t d ≡ old.met t d
  pub now : new.met s c ≡ true
  pub before : old.met s c ≡ false
  pub not_failed : old.failed s c ≡ false

-- only this condition of this slot failed since, which wasn't met
pub record FailsOne (old new : Facts) (s : ℕ) (c : Condition) : Type 0 where
  pub stands : new.stands ≡ old.stands
  pub met : new.met ≡ old.met
  pub others : (t : ℕ) (d : Condition) → ((t == s) && same_condition d c) ≡ false
      → new.failed t d ≡ old.failed t d
  pub now : new.failed s c ≡ true
  pub before : old.failed s c ≡ false
  pub not_met : old.met s c ≡ false

-- whether a need waits for this start alone
abbrev pub waits_for_start : Setup → ℕ → Need → Bool
waits_for_start setup b need =
    is_started need.condition
    && option_map_or (λ a. a == b) (start_of setup.actions need.slot) false

-- how often an action is let go by the good end of another one
abbrev pub released_by : Setup → ℕ → ℕ → ℕ
released_by setup b a =
    counted (λ c. c == b) (needs_of setup.actions a)
    + counted (waits_for_start setup b) (slot_needs setup.declared (kind_of setup.actions a))

-- whether the start of a slot is one of these
abbrev pub start_among : Setup → (ℕ → Bool) → ℕ → Bool
start_among setup lost s = option_map_or lost (start_of setup.actions s) false

-- whether something stands in an action's way for good, where these are the lost ones
abbrev pub cause_by : Setup → Facts → (ℕ → Bool) → ℕ → Bool
cause_by setup facts lost a =
    list_any lost (needs_of setup.actions a)
    || list_any (λ need. need.required
    && (facts.failed need.slot need.condition || start_among setup lost need.slot))
    (slot_needs setup.declared (kind_of setup.actions a))

-- whether a slot's need lets its start go, where these are the lost ones
abbrev pub lets_where : Setup → Facts → (ℕ → Bool) → Need → Bool
lets_where setup facts lost need =
    met_by setup facts need.slot need.condition
    || (not need.required
    && (facts.failed need.slot need.condition || start_among setup lost need.slot))

-- how many of its needs keep an action, where these are the lost ones
abbrev pub lacks_by : Setup → Facts → (ℕ → Bool) → ℕ → ℕ
lacks_by setup facts lost a =
    counted (λ b. not (is_well (facts.stands b))) (needs_of setup.actions a)
    + counted (λ need. not (lets_where setup facts lost need))
    (slot_needs setup.declared (kind_of setup.actions a))

-- whether the loss of an action blocks another one
abbrev pub stops : Setup → ℕ → ℕ → Bool
stops setup x a =
    list_any (λ b. b == x) (needs_of setup.actions a)
    || list_any (λ need. need.required && start_among setup (λ b. b == x) need.slot)
    (slot_needs setup.declared (kind_of setup.actions a))

-- how many needs of an action let it go by the loss of another one
abbrev pub frees : Setup → ℕ → ℕ → ℕ
frees setup x a =
    counted (λ need. not need.required && start_among setup (λ b. b == x) need.slot)
    (slot_needs setup.declared (kind_of setup.actions a))

-- whether a need asks for this condition of this slot
abbrev pub asks_of : ℕ → Condition → Need → Bool
asks_of s c need = (need.slot == s) && same_condition need.condition c

-- whether a need asks for this condition of this slot and requires it
abbrev pub requires_of : ℕ → Condition → Need → Bool
requires_of s c need = need.required && asks_of s c need

-- whether a need asks for this condition of this slot and doesn't require it
abbrev pub prefers_of : ℕ → Condition → Need → Bool
prefers_of s c need = not need.required && asks_of s c need

-- whether an action has a need that asks for this condition of this slot and requires it
abbrev pub is_asking : Setup → ℕ → Condition → ℕ → Bool
is_asking setup s c a =
    list_any (requires_of s c) (slot_needs setup.declared (kind_of setup.actions a))

-- how many needs of starts that are still to come ask for a condition of a slot
abbrev pub askers : Setup → (ℕ → Bool) → ℕ → Condition → ℕ
askers setup pending s c =
    summed (λ a. if pending a
    then counted (asks_of s c) (slot_needs setup.declared (kind_of setup.actions a)) else 0)
    (places setup.actions)
