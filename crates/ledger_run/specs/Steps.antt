-- What a worker's hand did by a journal, step by step.
use Rattle.std.specs.Prelude.{ℕ, if◌then◌else◌, ◌==◌, List, [], ◌∷◌, ◌++◌, drop, length}
use Rattle.tree_base.specs.Limits.{before_poll, while_idle}
use Rattle.engine_types.specs.declared.Entry.{Entry}
use Rattle.engine_types.specs.declared.Exchange.{Exchange}
use Rattle.run_model.specs.EngineRules.{Made, Paused, Step, unpaused}
use Rattle.run_model.specs.Journals.{Setup}
use Rattle.run_model.specs.Logs.{exchanges_of}
use Rattle.run_model.specs.Requests.{request_out}
use Rattle.journal_laws.specs.Courses.{Course, entries, setup_of}

-- what a worker's hand does for an entry after these: worker 0's the observation's exchanges, each one's a pause of 500 ms
-- before a poll, the exchange of a permit, by its end, and a pause of 250 ms where there was nothing to do yet
abbrev pub steps_for : Setup → List Entry → ℕ → Entry → List Step
steps_for setup past w (Entry.Seen observation) =
    if w == 0 then unpaused observation.exchanges else []
steps_for setup past w (Entry.Poll v s) = if v == w then Paused before_poll ∷ [] else []
steps_for setup past w (Entry.Ended v outcome) =
    if v == w then Made (record { request = request_out setup past v; outcome = outcome }) ∷ []
    else []
steps_for setup past w (Entry.Idle v) = if v == w then Paused while_idle ∷ [] else []
steps_for setup past w _ = []

-- what a worker's hand did by these entries, in order
abbrev pub steps_of : Setup → List Entry → ℕ → List Step
steps_of setup [] w = []
steps_of setup (entry ∷ past) w = steps_of setup past w ++ steps_for setup past w entry

-- what worker 0's hand did since the run had come so far
abbrev pub steps_since : Course → Course → List Step
steps_since old new = drop (length (steps_of (setup_of old) (entries old) 0))
    (steps_of (setup_of new) (entries new) 0)

-- worker 0's exchanges since the run had come so far
abbrev pub exchanges_since : Course → Course → List Exchange
exchanges_since old new = drop (length (exchanges_of (setup_of old) (entries old) 0))
    (exchanges_of (setup_of new) (entries new) 0)
