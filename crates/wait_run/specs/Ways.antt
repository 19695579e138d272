-- How far a wait has come with its hand, and how it ends.
use Rattle.std.specs.Prelude.{◌≡◌, ◌⊎◌, ℕ, ◌<◌, false, true, find, List, [], ◌∷◌, Some, None, Result, Ok, Err, length, map, take}
use Rattle.std.specs.Option.{is_some, option_map}
use Rattle.engine_types.specs.declared.Declared.{Declared}
use Rattle.engine_types.specs.declared.Exchange.{Exchange}
use Rattle.engine_types.specs.declared.Listed.{Listed}
use Rattle.engine_types.specs.declared.Request.{Request}
use Rattle.event_watch.specs.Events.{events}
use Rattle.outside_api.specs.Standings.{Makes, Standing}
use Rattle.wait_run.specs.Asking.{IsWait}
use Rattle.wait_run.specs.Ends.{fails_goal, last_refused, refusal_of}
use Rattle.wait_run.specs.Goals.{AreGoals, failing_report}
use Rattle.wait_run.specs.Looks.{absent, look, looks, rows_by}
use Rattle.wait_run.specs.Reports.{has_ended, is_refused, is_settled, met_in, reported, said_in, some_failed}
use Rattle.wait_run.specs.declared.goals.Goals.{Goals}
use Rattle.wait_run.specs.declared.refusal.WaitRefusal.{WaitRefusal}

-- the slots that so much of a stream's body asks to look at
abbrev pub looks_of : Declared → List Listed → List ℕ → List ℕ
looks_of declared rows body = looks declared rows (events body).told

-- a wait is under way, from where its hand stood: it listed the containers, each slot has one, and so many looks were made and
-- answered of those that so much of the body asks for; the goals say what they reported
pub record Way (declared : Declared) (rows : List Listed) (body : List ℕ) (n : ℕ)
    (from now : Standing) (goals : Goals) : Type 0 where
  pub listing : Exchange
  pub done : List Exchange
  pub makes : Makes (listing ∷ done) from now
  pub lists : listing.request ≡ Request.ListContainers declared.project
  pub listed : rows_by listing.outcome ≡ Some rows
  pub present : absent declared rows ≡ []
  pub many : length done ≡ n
  pub asked : map (λ exchange. exchange.request) done
      ≡ take n (map (look declared rows) (looks_of declared rows body))
  pub answered : length (reported (looks_of declared rows body) done) ≡ n
  pub goes_on : (k : ℕ) → k < n
      → is_settled declared (reported (looks_of declared rows body) (take k done)) ≡ false
  pub goals_are : AreGoals declared rows (reported (looks_of declared rows body) done) goals

-- the last of these exchanges had another answer than was asked for, and the goals say what was reported before
pub record IsRefusedBy (declared : Declared) (body : List ℕ) (made : List Exchange)
    (refusal : WaitRefusal) (goals : Goals) : Type 0 where
  pub refused : is_refused declared body made ≡ true
  pub last : last_refused made ≡ Some refusal
  pub met : goals.met ≡ met_in declared (said_in declared body made)
  pub failed : option_map failing_report goals.failed
      ≡ find (fails_goal declared) (said_in declared body made)
  pub some : some_failed declared (said_in declared body made) ≡ is_some goals.failed

-- a wait that was under way ended: for want of memory, or by its last exchange
pub record EndsBy (declared : Declared) (body : List ℕ) (from now : Standing)
    (refusal : WaitRefusal) (goals : Goals) : Type 0 where
  pub made : List Exchange
  pub makes : Makes made from now
  pub waits : IsWait declared body made
  pub why : ((refusal ≡ WaitRefusal.Memory)
      × ((k : ℕ) × (goals.met ≡ take k (met_in declared (said_in declared body made)))))
      ⊎ IsRefusedBy declared body made refusal goals

-- a step of a wait: so many looks were made, or it ended
abbrev pub Steps
    : Declared → List Listed → List ℕ → ℕ → Standing → Goals → Result Unit WaitRefusal
    → Standing → Type 0
Steps declared rows body n from goals (Ok done) now = Way declared rows body n from now goals
Steps declared rows body n from goals (Err refusal) now =
    EndsBy declared body from now refusal goals

-- a wait ended with its listing
pub record EndsListing (declared : Declared) (from now : Standing) (refusal : WaitRefusal)
    : Type 0 where
  pub made : List Exchange
  pub makes : Makes made from now
  pub waits : IsWait declared [] made
  pub unmet : met_in declared (said_in declared [] made) ≡ []
  pub why : (refusal ≡ WaitRefusal.Memory)
      ⊎ ((has_ended declared [] made ≡ true)
      × (Some refusal ≡ refusal_of declared [] made None))

-- the containers were listed, and each slot has one; or the wait ended
abbrev pub ListsBy : Declared → Result Goals WaitRefusal → Standing → Standing → Type 0
ListsBy declared (Ok goals) from now =
    (rows : List Listed) × Way declared rows [] 0 from now goals
ListsBy declared (Err refusal) from now = EndsListing declared from now refusal
