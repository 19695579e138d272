-- What a call leaves that fetches the logs of a project.
use Rattle.std.specs.Prelude.{◌≡◌, ◌⊎◌, ℕ, ◌+◌, ◌<◌, ◌≤◌, ◌||◌, min, Bool, true, false, List, [], ◌∷◌, ◌++◌, Option, Some, None, Result, IfErr, IfOk, length}
use Rattle.tree_base.specs.Limits.{most_log_slots}
use Rattle.turn_ledger.specs.Own.{own}
use Rattle.engine_types.specs.declared.Declared.{Declared}
use Rattle.engine_types.specs.declared.Listed.{Listed}
use Rattle.engine_types.specs.declared.Outcome.{Outcome}
use Rattle.engine_types.specs.declared.Reply.{Reply}
use Rattle.engine_types.specs.declared.Request.{Request}
use Rattle.outside_api.specs.Accounts.{Account, IsCausedIn}
use Rattle.log_book.specs.Books.{IsBook}
use Rattle.log_book.specs.declared.entries.LogEntry.{LogEntry}
use Rattle.engine_types.specs.declared.LogsRefusal.{LogsRefusal}
use Rattle.logs_run.specs.declared.tasks.Task.{Task}
use Rattle.logs_run.specs.Ending.{IsRefusal}
use Rattle.logs_run.specs.Fetching.{Fetch, HasFetched}
use Rattle.logs_run.specs.Slots.{own_tasks, tasks}

-- the rows of a listing that was answered well
abbrev pub rows_told : Outcome → Option (List Listed)
rows_told (Outcome.Answered (Reply.Containers rows)) = Some rows
rows_told outcome = None

-- a listing that wasn't: what the call is refused with
abbrev pub listing_refusal : Declared → Outcome → LogsRefusal
listing_refusal declared Outcome.Memory = LogsRefusal.Memory
listing_refusal declared outcome =
    LogsRefusal.Request (Request.ListContainers declared.project) outcome

-- the same, or memory was wanted to say it
abbrev pub IsListingRefusal : Declared → Outcome → LogsRefusal → Type 0
IsListingRefusal declared outcome refusal =
    (refusal ≡ LogsRefusal.Memory) ⊎ (refusal ≡ listing_refusal declared outcome)

-- a hand listed the containers of the project: their rows, or why they aren't told
pub record Lists (declared : Declared) (result : Result (List Listed) LogsRefusal)
    (before after : Account) : Type 0 where
  pub outcome : Outcome
  pub caused : IsCausedIn (record {
    request = Request.ListContainers declared.project;
    outcome = outcome;
  }) before after
  pub rows : IfOk result (λ rows. rows_told outcome ≡ Some rows)
  pub refused : IfErr result (λ refusal. (rows_told outcome ≡ None) × IsListingRefusal declared outcome refusal)

-- the fetches of the workers from number w on, whose hands told these before and after: each worker asked its own tasks, and fell
-- short or not
abbrev pub HaveFetched : ℕ → List Task → List LogEntry → ℕ → List Account → List Account
    → List Fetch → Bool → Type 0
HaveFetched workers all entries w [] [] fetches short = (fetches ≡ []) × (short ≡ false)
HaveFetched workers all entries w (before ∷ olds) (after ∷ news) fetches short =
    (one : Bool) × (more : Bool) × (rest : List Fetch)
    × (done : HasFetched entries w (own_tasks workers w all) one
    (own (λ e. e.worker) w entries) before after)
    × HaveFetched workers all entries (w + 1) olds news rest more
    × (fetches ≡ done.fetches ++ rest) × (short ≡ (one || more))
HaveFetched workers all entries w [] (after ∷ news) fetches short = ⊥
HaveFetched workers all entries w (before ∷ olds) [] fetches short = ⊥

-- a call whose listing was answered well: each worker fetched, where one fell short memory was wanted, and the refusal is that of
-- what was fetched
pub record HasLogged (declared : Declared) (rows : List Listed) (olds news : List Account)
    (refusal : Option LogsRefusal) (entries : List LogEntry) : Type 0 where
  pub fetches : List Fetch
  pub short : Bool
  pub fetched : HaveFetched (length olds) (tasks declared rows) entries 0 olds news fetches short
  pub memory : short ≡ true → refusal ≡ Some LogsRefusal.Memory
  pub refused : IsRefusal declared rows fetches entries refusal
  pub book : IsBook (record {
    slots = length declared.slots;
    workers = length olds;
    entries = entries;
  })

-- what a call leaves behind its listing
abbrev pub IsLoggedBy : Declared → Option (List Listed) → Outcome → List Account → List Account
    → Option LogsRefusal → List LogEntry → Type 0
IsLoggedBy declared (Some rows) outcome olds news refusal entries =
    HasLogged declared rows olds news refusal entries
IsLoggedBy declared None outcome olds news refusal entries =
    (news ≡ olds) × (entries ≡ []) × (reason : LogsRefusal) × (refusal ≡ Some reason)
    × IsListingRefusal declared outcome reason

-- a call that is refused for the number of slots, before anything is sent
pub record IsTooMany (declared : Declared) (olds news : List Account) (refusal : Option LogsRefusal)
    (entries : List LogEntry) : Type 0 where
  pub over : most_log_slots < length declared.slots
  pub hands : news ≡ olds
  pub says : refusal ≡ Some (LogsRefusal.TooManySlots (min (length declared.slots) 4294967295))
  pub none : entries ≡ []

-- a call whose hand 0 listed the containers
pub record HasListed (declared : Declared) (first : Account) (olds news : List Account)
    (refusal : Option LogsRefusal) (entries : List LogEntry) : Type 0 where
  pub few : length declared.slots ≤ most_log_slots
  pub outcome : Outcome
  pub listed : Account
  pub caused : IsCausedIn (record {
    request = Request.ListContainers declared.project;
    outcome = outcome;
  }) first listed
  pub left : IsLoggedBy declared (rows_told outcome) outcome (listed ∷ olds) news refusal entries

-- what a call leaves, by what its hands told before and after
abbrev pub IsLogged : Declared → List Account → List Account → Option LogsRefusal → List LogEntry → Type 0
IsLogged declared [] news refusal entries = ⊥
IsLogged declared (first ∷ olds) news refusal entries =
    IsTooMany declared (first ∷ olds) news refusal entries
    ⊎ HasListed declared first olds news refusal entries
