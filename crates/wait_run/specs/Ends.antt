-- How a wait ends: its refusal, by the exchanges that were made and by what ended the stream.
use Rattle.std.specs.Prelude.{◌≡◌, ◌⊎◌, ℕ, Bool, if◌then◌else◌, List, [], ◌∷◌, Option, Some, None, Result, Ok, Err, find, slice_get}
use Rattle.std.specs.Option.{option_map, option_map_or, unwrap_or}
use Rattle.engine_types.specs.declared.Declared.{Declared}
use Rattle.engine_types.specs.declared.Exchange.{Exchange}
use Rattle.engine_types.specs.declared.Outcome.{Outcome}
use Rattle.engine_types.specs.declared.Report.{Report}
use Rattle.engine_types.specs.declared.Request.{Request}
use Rattle.engine_types.specs.declared.StreamFault.{StreamFault}
use Rattle.response_rules.specs.Json.{given}
use Rattle.run_model.specs.Conditions.{is_failed_verdict, judge}
use Rattle.run_model.specs.Ending.{outcome_status, stream_status}
use Rattle.wait_run.specs.Looks.{absent, rows_in}
use Rattle.wait_run.specs.Reports.{all_met, goal_at, is_refused, lacks_one, said_in, some_failed}
use Rattle.wait_run.specs.declared.refusal.WaitRefusal.{WaitRefusal}

-- the exit status of a refusal
abbrev pub refusal_status : WaitRefusal → ℕ
refusal_status (WaitRefusal.NotThere slot) = 3
refusal_status (WaitRefusal.Stream fault) = stream_status fault
refusal_status (WaitRefusal.Request request outcome) = outcome_status outcome
refusal_status (WaitRefusal.Condition slot condition report) = 4
refusal_status WaitRefusal.Memory = 9

-- the exit status of a wait: 0 exactly where nothing refuses it
abbrev pub status_of : Option WaitRefusal → ℕ
status_of refusal = option_map_or refusal_status refusal 0

-- the name of the slot at a place
abbrev pub name_at : Declared → ℕ → List ℕ
name_at declared s =
    unwrap_or (option_map (λ slot. slot.name) (slice_get declared.slots s)) []

-- the refusal of an exchange with another answer than was asked for
abbrev pub refused_by : Request → Outcome → WaitRefusal
refused_by request Outcome.Memory = WaitRefusal.Memory
refused_by request outcome = WaitRefusal.Request request outcome

-- the refusal of the last of exchanges
abbrev pub last_refused : List Exchange → Option WaitRefusal
last_refused [] = None
last_refused (exchange ∷ []) = Some (refused_by exchange.request exchange.outcome)
last_refused (exchange ∷ next ∷ made) = last_refused (next ∷ made)

-- the refusal by a report
abbrev pub failed_by : Declared → ℕ × Report → WaitRefusal
failed_by declared (s, report) =
    WaitRefusal.Condition (name_at declared s) (goal_at declared s) report

-- whether a report fails its slot's goal
abbrev pub fails_goal : Declared → ℕ × Report → Bool
fails_goal declared (s, report) = is_failed_verdict (judge (goal_at declared s) report)

-- the refusal by the first report that fails its slot's goal
abbrev pub first_failing : Declared → List (ℕ × Report) → Option WaitRefusal
first_failing declared said = option_map (failed_by declared) (find (fails_goal declared) said)

-- the refusal of a wait: by a goal that has failed, since an exchange that is refused is the last and so stands behind each report; by
-- that exchange; by a slot without container; none where all goals are met; and else by what ended the stream
abbrev pub refusal_of
    : Declared → List ℕ → List Exchange → Option StreamFault → Option WaitRefusal
refusal_of declared body made end =
    if some_failed declared (said_in declared body made)
    then first_failing declared (said_in declared body made)
    else if is_refused declared body made then last_refused made
    else if lacks_one declared made
    then option_map (λ s. WaitRefusal.NotThere (name_at declared s))
    (given (rows_in made) (λ rows. slice_get (absent declared rows) 0))
    else if all_met declared (said_in declared body made) then None
    else option_map WaitRefusal.Stream end

-- what a wait came to whose first failing report was this, and whose last step ended so; it is free to want memory for the slot's name
abbrev pub CameTo
    : Declared → Option (ℕ × Report) → Result Unit WaitRefusal → Option WaitRefusal → Type 0
CameTo declared failing (Err WaitRefusal.Memory) refusal = refusal ≡ Some WaitRefusal.Memory
CameTo declared None (Ok done) refusal = refusal ≡ None
CameTo declared None (Err end) refusal = refusal ≡ Some end
CameTo declared (Some failing) end refusal =
    (refusal ≡ Some WaitRefusal.Memory) ⊎ (refusal ≡ Some (failed_by declared failing))
