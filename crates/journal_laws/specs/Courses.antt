-- What is seen of a ledger: what its run is of, and its journal.
use Rattle.std.specs.Prelude.{◌≡◌, ℕ, false, List, [], ◌∷◌, ◌++◌, reverse}
use Rattle.engine_types.specs.declared.Declared.{Declared}
use Rattle.engine_types.specs.declared.Entry.{Entry}
use Rattle.engine_types.specs.declared.Plan.{Plan}
use Rattle.engine_types.specs.declared.RunLimits.{RunLimits}
use Rattle.engine_types.specs.declared.Seen.{Seen}
use Rattle.engine_types.specs.declared.SeenEnd.{SeenEnd}
use Rattle.run_model.specs.Journals.{Setup, has_stopped}
use Rattle.run_model.specs.Legal.{IsReady}
use Rattle.run_model.specs.Runs.{unseen}

-- a run on its way: what is declared, the plan, what bounds the run, and its journal, oldest entry first
pub record Course : Type 0 where
  pub declared : Declared
  pub plan : Plan
  pub limits : RunLimits
  pub journal : List Entry

-- what the observation saw that a journal begins with
abbrev pub first_seen : List Entry → Seen
first_seen (Entry.Seen observed ∷ rest) = of observed.end
  where
    of : SeenEnd → Seen
    of (SeenEnd.Good seen) = seen
    of (SeenEnd.Bad fault) = unseen
first_seen _ = unseen

-- what the run is of
abbrev pub setup_of : Course → Setup
setup_of run = record {
  declared = run.declared;
  seen = first_seen run.journal;
  actions = run.plan.actions;
  limits = run.limits;
}

-- the entries so far, newest first
abbrev pub entries : Course → List Entry
entries run = reverse run.journal

-- the same run with one more entry
abbrev pub grown : Course → Entry → Course
grown run entry = record run { journal = run.journal ++ entry ∷ [] }

-- a worker may call: it is one of the run's, holds nothing and hasn't left
abbrev pub MayAsk : Course → ℕ → Type 0
MayAsk run w = IsReady (setup_of run) (entries run) w

-- a worker may stop, once: it may call, and made no Stop and no Late at the deadline
pub record MayStop (run : Course) (w : ℕ) : Type 0 where
  pub ready : MayAsk run w
  pub first_time : has_stopped (entries run) w ≡ false
