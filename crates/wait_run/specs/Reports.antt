-- What the looks of a wait report, and what that says of goals.
use Rattle.std.specs.Prelude.{ℕ, ◌+◌, Bool, not, ◌&&◌, ◌||◌, ◌==◌, if◌then◌else◌, List, [], ◌∷◌, Some, None, filter, filter_map, length, map, nat_le, nat_lt, take, slice_get}
use Rattle.std.specs.List.{list_all, list_any}
use Rattle.std.specs.Option.{is_none, is_some, option_map, unwrap_or}
use Rattle.engine_types.specs.declared.Condition.{Condition}
use Rattle.engine_types.specs.declared.Declared.{Declared}
use Rattle.engine_types.specs.declared.Exchange.{Exchange}
use Rattle.engine_types.specs.declared.Report.{Report}
use Rattle.event_watch.specs.Events.{events}
use Rattle.event_watch.specs.Verdicts.{judged}
use Rattle.response_rules.specs.Json.{given}
use Rattle.run_model.specs.Conditions.{is_failed_verdict, is_met_verdict, report_of}
use Rattle.run_model.specs.Numbers.{places}
use Rattle.run_model.specs.declared.Verdict.{Verdict}
use Rattle.wait_run.specs.Looks.{absent, looks, rows_by, rows_in}

-- the reports of looks, each with its slot's place, up to the first look that gave none
abbrev pub reported : List ℕ → List Exchange → List (ℕ × Report)
reported [] made = []
reported (s ∷ more) [] = []
reported (s ∷ more) (exchange ∷ made) =
    unwrap_or
    (option_map (λ report. (s, report) ∷ reported more made) (report_of exchange.outcome)) []

-- the reports of the exchanges behind the listing
abbrev pub said_in : Declared → List ℕ → List Exchange → List (ℕ × Report)
said_in declared body [] = []
said_in declared body (listing ∷ made) =
    unwrap_or (option_map (λ rows. reported (looks declared rows (events body).told) made)
    (rows_by listing.outcome)) []

module _ (declared : Declared) where
  -- the goal of the slot at a place
  abbrev pub goal_at : ℕ → Condition
  goal_at s =
      unwrap_or (option_map (λ slot. slot.goal) (slice_get declared.slots s)) Condition.Running

  -- the verdict on a slot's goal, by all reports on its container
  abbrev pub verdict_on : List (ℕ × Report) → ℕ → Verdict
  verdict_on said s =
      judged (goal_at s) (map {B = Report} (λ look. look.1) (filter (λ look. look.0 == s) said))

  -- whether some goal has failed
  abbrev pub some_failed : List (ℕ × Report) → Bool
  some_failed said = list_any (λ s. is_failed_verdict (verdict_on said s)) (places declared.slots)

  -- whether all goals are met
  abbrev pub all_met : List (ℕ × Report) → Bool
  all_met said = list_all (λ s. is_met_verdict (verdict_on said s)) (places declared.slots)

  -- whether each slot was looked at, and all goals are met or one has failed
  abbrev pub is_settled : List (ℕ × Report) → Bool
  is_settled said =
      nat_le (length declared.slots) (length said) && (some_failed said || all_met said)

  -- whether the look at a place is the first behind which its slot's goal is met
  abbrev pub is_first_met : List (ℕ × Report) → ℕ → Bool
  is_first_met said k =
      is_some (given {A = ℕ × Report} {B = ℕ} (slice_get said k)
      (λ here. if is_met_verdict (verdict_on (take (k + 1) said) here.0)
      && not (is_met_verdict (verdict_on (take k said) here.0)) then Some k else None))

  -- the slots whose goals were met, each once, in the order in which they first were
  abbrev pub met_in : List (ℕ × Report) → List ℕ
  met_in said =
      filter_map (λ k. option_map (λ (here : ℕ × Report). here.0) (slice_get said k))
      (filter (is_first_met said) (places said))

  -- whether a slot has no container in the listing that was made
  abbrev pub lacks_one : List Exchange → Bool
  lacks_one made =
      nat_lt 0 (length (unwrap_or (option_map (λ rows. absent declared rows) (rows_in made)) []))

  -- whether an exchange had another answer than was asked for: then there are fewer reports than looks
  abbrev pub is_refused : List ℕ → List Exchange → Bool
  is_refused body made =
      nat_lt 0 (length made)
      && (is_none (rows_in made)
      || nat_lt (length (said_in declared body made) + 1) (length made))

  -- whether nothing more is asked behind these exchanges
  abbrev pub has_ended : List ℕ → List Exchange → Bool
  has_ended body made =
      is_refused body made
      || (lacks_one made
      || (is_some (rows_in made) && is_settled (said_in declared body made)))
