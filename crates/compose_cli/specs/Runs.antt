-- What a call leaves that ran a project.
use Rattle.std.specs.Prelude.{◌≡◌, ◌⊎◌, ◌≤◌, ◌||◌, ℕ, Bool, true, false, List, [], ◌∷◌, Option, Some, None, Result, Ok, IfOk, IfSome, length, option_map, slice_get, take}
use Rattle.engine_types.specs.declared.RunOptions.{RunOptions}
use Rattle.engine_types.specs.declared.Aim.{Aim}
use Rattle.engine_types.specs.declared.Declared.{Declared}
use Rattle.engine_types.specs.declared.Engine.{Engine}
use Rattle.engine_types.specs.declared.Entry.{Entry}
use Rattle.engine_types.specs.declared.Purpose.{Purpose}
use Rattle.engine_types.specs.declared.RunFault.{RunFault}
use Rattle.asked_project.specs.Asking.{Variables, command_of, options_asked}
use Rattle.asked_project.specs.Meaning.{IsLoaded, meaning}
use Rattle.asked_run.specs.Declaring.{ForDeclared, IsFailedDigest, declared_from}
use Rattle.compose_cli.specs.declared.ended.Ended.{Ended}
use Rattle.compose_config.specs.Commands.{ForProject, IsReadFault}
use Rattle.outside_files.specs.Counts.{Rose}
use Rattle.outside_files.specs.Files.{Contents}
use Rattle.ledger_run.specs.Tellings.{Telling, account_in}
use Rattle.outside_api.specs.Accounts.{Account, account}
use Rattle.outside_api.specs.Clock.{Clock, new_clock}
use Rattle.outside_api.specs.Hands.{Heard, HeardNothing}
use Rattle.outside_files.specs.Sinks.{GrewBy}
use Rattle.compose_words.specs.declared.Command.{Command}
use Rattle.compose_words.specs.declared.Options.{Options}
use Rattle.declared_set.specs.declared.LoadedProject.{LoadedProject}
use Rattle.file_digests.specs.declared.DigestRefusal.{DigestRefusal}
use Rattle.typed_project.specs.declared.project.Project.{Project}
use Rattle.project_run.specs.Timing.{IsTimed, ReadsFirst}
use Rattle.project_run.specs.Whole.{IsCaused, SparesKept, task_of}
use Rattle.project_run.specs.Worlds.{EndsExact, EndsGone, MakesOnce, RollsFew, SparesAgreeing}
use Rattle.refusals.specs.Origins.{run_refusal}
use Rattle.refusals.specs.Refused.{is_failed_digest, is_free}
use Rattle.refusals.specs.declared.Part.{Part}
use Rattle.refusals.specs.declared.Refusal.{Refusal}
use Rattle.run_model.specs.EngineRules.{Among}
use Rattle.run_model.specs.Exact.{IsExact, IsGone}
use Rattle.run_model.specs.Logs.{GrowsBy}
use Rattle.run_model.specs.Observation.{is_up}
use Rattle.run_model.specs.Runs.{IsLeftByAll, IsRun, IsWorldOfRun, Task, limits_of, run_exchanges, run_fault, run_report, run_status}
use Rattle.run_model.specs.Worlds.{Move}
use Rattle.outside_files.specs.Writing.{Says}
use Rattle.tree_base.specs.Answers.{Unless}

-- what a command's run is for: `down` takes volumes away where it is asked to; the others run nothing
abbrev pub aim_for : Command → Option Aim
aim_for (Command.Up orphans wait seconds scale) =
    Some (record { purpose = Purpose.Up; orphans = orphans; volumes = false })
aim_for (Command.Down orphans volumes seconds) =
    Some (record { purpose = Purpose.Down; orphans = orphans; volumes = volumes })
aim_for _ = None

-- what the run of words is for, where they are built and run anything
abbrev pub aim_asked : Option Command → Option Aim
aim_asked None = None
aim_asked (Some command) = aim_for command

-- a fact on what the words' run is for, where they run anything
abbrev pub IfRuns : List (List ℕ) → Variables → (Aim → Type 0) → Type 0
IfRuns words env Fact = IfSome (aim_asked (command_of words env)) Fact

-- what a command's options bound of its run: `up` may wait for goals, and be late; a stop of `down` may wait so
-- many seconds in place of what each slot says
abbrev pub options_for : Command → RunOptions
options_for (Command.Up orphans wait seconds scale) =
    record { wait = wait; wait_seconds = seconds; stop_seconds = None }
options_for (Command.Down orphans volumes seconds) =
    record { wait = false; wait_seconds = None; stop_seconds = seconds }
options_for _ =
    record { wait = false; wait_seconds = None; stop_seconds = None }

-- the first reading of the clock of hand 0; 0 where there is no hand, or it never read its clock
abbrev pub first_reading : {H : Type 0} → (H → Clock) → List H → ℕ
first_reading clock [] = 0
first_reading clock (hand ∷ others) = (clock hand).first

-- a fact on what words declare, with the command that they are, what it runs for and the project that they load, with its files and
-- its directory: on the set that the files give where these are told, else on one that some answers of reads give
abbrev pub ForAsked :
    List (List ℕ) → Variables → List ℕ → Option Contents → (Command → Aim → Declared → Type 0) → Type 0
ForAsked words env cwd told Fact =
    IfSome (command_of words env) (λ command. IfSome (aim_for command) (λ aim.
    ForProject words env cwd told (λ loaded. ForDeclared told command loaded (Fact command aim))))

-- a fact on the task that a call runs: what its words ask for, within the limits that its options, so many workers and the first
-- reading of hand 0's clock set, of what one project declares
abbrev pub ForTask :
    ℕ → List (List ℕ) → Variables → List ℕ → Option Contents → ℕ → (Task → Type 0) → Type 0
ForTask workers words env cwd told first Fact =
    ForAsked words env cwd told (λ command aim declared.
    Fact (task_of declared aim (limits_of workers (options_for command) first)))

-- a fact on what a run's project is declared as, or refused with, where the files are told and a project is meant
abbrev pub IfDeclared :
    List (List ℕ) → Variables → List ℕ → Option Contents → (Result Declared Refusal → Type 0) → Type 0
IfDeclared words env cwd told Fact =
    IfSome told (λ contents. IfOk (meaning words env cwd contents) (λ loaded.
    IfSome (command_of words env) (λ command. IfSome (aim_for command) (λ aim.
    Fact (declared_from contents command loaded)))))

-- the refusal is the one of what is declared; reads that failed and a want of memory may stand in its place
abbrev pub IsUndeclared : Refusal → Option Refusal → Type 0
IsUndeclared expected None = ⊥
IsUndeclared expected (Some found) =
    Unless (is_free found || is_failed_digest found) (found ≡ expected)

-- a run is refused since the read of a file for a digest of the project failed
abbrev pub IsDigestOf : Command → Project → Option Contents → ℕ → ℕ → Option Refusal → Type 0
IsDigestOf command project told old new refusal =
    (path : List ℕ) × (refusal ≡ Some (Refusal.Digest (DigestRefusal.ReadFault path)))
    × IsFailedDigest told command project old new path

-- the read of a file for its digest failed: words that are built load a project, whose run asks for that digest, and the
-- files' count of faults rose
abbrev pub IsFailedDigestRead :
    List (List ℕ) → Variables → List ℕ → Option Contents → ℕ → ℕ → List ℕ → Type 0
IsFailedDigestRead words env cwd told old new path =
    (options : Options) × (options_asked words env ≡ Ok options)
    × (loaded : LoadedProject) × IsLoaded options env cwd told loaded
    × IsFailedDigest told options.command loaded.project old new path

-- a call is refused since the read of a file for its digest failed
abbrev pub IsDigestFault :
    List (List ℕ) → Variables → List ℕ → Option Contents → ℕ → ℕ → Option Refusal → Type 0
IsDigestFault words env cwd told old new refusal =
    (path : List ℕ) × (refusal ≡ Some (Refusal.Digest (DigestRefusal.ReadFault path)))
    × IsFailedDigestRead words env cwd told old new path

-- a call is refused since some read failed
abbrev pub IsFaultOfReads :
    List (List ℕ) → Variables → List ℕ → Option Contents → ℕ → ℕ → Option Refusal → Type 0
IsFaultOfReads words env cwd told old new refusal =
    IsReadFault words env cwd told old new refusal ⊎ IsDigestFault words env cwd told old new refusal

-- what a call is refused with whose run has this fault, if any: that fault, or a fault of the output where the run
-- has none, or want of memory
abbrev pub IsRefusalOf : Option RunFault → ℕ → ℕ → Option Refusal → Type 0
IsRefusalOf fault old new refusal =
    (refusal ≡ option_map run_refusal fault)
    ⊎ ((fault ≡ None) × (refusal ≡ Some (Refusal.Outside Part.Out)) × Rose old new)
    ⊎ (refusal ≡ Some Refusal.Memory)

-- the exit status of a call whose run has this status: that one, or 7 where the output failed after a run of status
-- 0, or 9
abbrev pub IsStatusOf : ℕ → ℕ → Type 0
IsStatusOf run status = (status ≡ run) ⊎ ((run ≡ 0) × (status ≡ 7)) ⊎ (status ≡ 9)

-- what a call is refused with whose run has this fault, if any, and whose report was written whole, or wasn't
abbrev pub refusal_after : Option RunFault → Bool → Option Refusal
refusal_after (Some fault) whole = Some (run_refusal fault)
refusal_after None true = None
refusal_after None false = Some (Refusal.Outside Part.Out)

-- a run's report was written to the output whole; of a call that is refused it may be a prefix, where the output failed or memory
-- was wanted
abbrev pub Reports : List ℕ → Option Refusal → Option (List ℕ) → Option (List ℕ) → ℕ → ℕ → Type 0
Reports report None old new faults_old faults_new = GrewBy old report new
Reports report refusal old new faults_old faults_new =
    Says report old new faults_old faults_new
    ⊎ ((refusal ≡ Some Refusal.Memory)
    × ((n : ℕ) × (n ≤ length report) × GrewBy old (take n report) new))

-- a call without a run was refused before it, or wanted memory
abbrev pub IsUnbegun : Option Refusal → Type 0
IsUnbegun (Some (Refusal.Words refusal)) = Unit {0}
IsUnbegun (Some (Refusal.NotBuilt unbuilt)) = Unit {0}
IsUnbegun (Some (Refusal.Load refusal)) = Unit {0}
IsUnbegun (Some (Refusal.Name refusal)) = Unit {0}
IsUnbegun (Some (Refusal.Active refusal)) = Unit {0}
IsUnbegun (Some (Refusal.Project refusal)) = Unit {0}
IsUnbegun (Some (Refusal.Digest refusal)) = Unit {0}
IsUnbegun (Some (Refusal.Identity refusal)) = Unit {0}
IsUnbegun (Some (Refusal.Outside Part.Plug)) = Unit {0}
IsUnbegun (Some Refusal.Memory) = Unit {0}
IsUnbegun _ = ⊥

-- where an Engine was told at first, and one is told now, a world of the run leads from the one to the other
abbrev pub LeadsOn : Task → List Entry → Option Engine → Option Engine → Type 0
LeadsOn task journal began now =
    IfSome began (λ first. IfSome now (λ last.
    (moves : List Move) × IsWorldOfRun task journal first moves last))

-- where an Engine is told, it holds exactly what the task declares
abbrev pub HoldsExactly : Task → Option Engine → Type 0
HoldsExactly task now = IfSome now (λ engine. IsExact task.declared engine task.aim.orphans)

-- where an Engine is told, all that the task declares is gone
abbrev pub HoldsNone : Task → Option Engine → Type 0
HoldsNone task now =
    IfSome now (λ engine. IsGone task.declared engine task.aim.orphans task.aim.volumes)

-- each outcome of a worker's in the task's journal has its cause in its own exchange, with a hand that tells this
-- now: before the run its log was empty, it had heard nothing, and no exchange had failed
abbrev pub IsCausedAnew : Task → List Entry → ℕ → Account → Type 0
IsCausedAnew task journal w now =
    (heard : Option (List Heard)) × HeardNothing heard
    × IsCaused task journal w (account [] heard 0) now

-- a call ran this task, with a hand for each of its workers: what it left, and what that means for each Engine that may have given
-- the journal's replies
pub record RanAs {H : Type 0} (tell : H → Telling) (task : Task) (ended : Ended H)
    (written_old written_new : Option (List ℕ)) (faults_old faults_new : ℕ) : Type 0 where
  -- the journal is that of a whole run, legal and final, which each worker left where the observation ended well
  pub legal : IsRun task ended.journal
  pub left : IsLeftByAll task ended.journal
  -- there are as many hands as workers, and the hand of each made its exchanges, each of which has its cause in itself
  pub hands : length ended.hands ≡ task.limits.workers
  pub log : (w : ℕ) (hand : H) → slice_get ended.hands w ≡ Some hand
      → GrowsBy (run_exchanges task ended.journal w) [] (tell hand).log
  pub cause : (w : ℕ) (hand : H) → slice_get ended.hands w ≡ Some hand
      → IsCausedAnew task ended.journal w (account_in (tell hand))
  -- the hand of each worker looked whether to stop, paused and read its clock as the journal says
  pub timed : (w : ℕ) (hand : H) → slice_get ended.hands w ≡ Some hand
      → IsTimed task ended.journal w new_clock (tell hand).clock
  -- where there is a deadline, it counts from a reading that stands before the first exchange
  pub read_first : (hand : H) → slice_get ended.hands 0 ≡ Some hand
      → ReadsFirst task.limits.deadline 0 (tell hand).clock
  -- status, refusal and report are those of the run
  pub run_status : IsStatusOf (run_status task ended.journal) ended.status
  pub run_fault : IsRefusalOf (run_fault task ended.journal) faults_old faults_new ended.refusal
  pub report : Reports (run_report task ended.journal) ended.refusal written_old written_new
      faults_old faults_new
  -- `up` leaves kept containers alone
  pub kept : is_up task.aim.purpose ≡ true → SparesKept task ended.journal
  -- whatever runs of `up` came before, each whole or cut off anywhere: over all of them and this one each container is made at most
  -- once, and this one spares the containers that agree
  pub once : is_up task.aim.purpose ≡ true → MakesOnce task ended.journal
  pub agreeing : is_up task.aim.purpose ≡ true → SparesAgreeing task ended.journal
  -- at no moment of `up` do more slots of a service lack a live container by the run's doing than the service replaces at a time
  pub rolls : is_up task.aim.purpose ≡ true → RollsFew task ended.journal
  -- at status 0 the Engine holds exactly what is declared after `up`, and nothing of it after `down`, in every world of the run,
  -- whatever it held before
  pub exact_in_each_world : ended.status ≡ 0 → is_up task.aim.purpose ≡ true
      → EndsExact task ended.journal
  pub gone_in_each_world : ended.status ≡ 0 → is_up task.aim.purpose ≡ false
      → EndsGone task ended.journal

-- a call ran this task with one hand, and so did the Engine that this hand tells now and that its plug told at first
pub record RanAlone {H : Type 0} (tell : H → Telling) (began : Option Engine) (task : Task)
    (ended : Ended H) (written_old written_new : Option (List ℕ)) (faults_old faults_new : ℕ)
    : Type 0 where
  pub ran : RanAs tell task ended written_old written_new faults_old faults_new
  -- a world of the run leads from the one Engine to the other
  pub world : (hand : H) → Among ended.hands hand
      → LeadsOn task ended.journal began (tell hand).engine
  -- at status 0 it holds exactly what is declared after `up`, and nothing of it after `down`
  pub exact : ended.status ≡ 0 → is_up task.aim.purpose ≡ true → (hand : H)
      → Among ended.hands hand → HoldsExactly task (tell hand).engine
  pub gone : ended.status ≡ 0 → is_up task.aim.purpose ≡ false → (hand : H)
      → Among ended.hands hand → HoldsNone task (tell hand).engine
