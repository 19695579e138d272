-- A moment of a run of `up` in the Engine: which slots have a live container there, where nothing but the run changes the Engine.
use Rattle.std.specs.Prelude.{◌≡◌, ℕ, ◌≤◌, Bool, true, false, not, ◌&&◌, List, [], ◌∷◌, ◌++◌, Some, filter, is_some, length, reverse}
use Rattle.std.specs.List.{list_any}
use Rattle.std.specs.Option.{option_map_or}
use Rattle.std.specs.Str.{bytes_eq}
use Rattle.engine_types.specs.declared.Declared.{Declared}
use Rattle.engine_types.specs.declared.DeclaredService.{DeclaredService}
use Rattle.engine_types.specs.declared.Engine.{Engine}
use Rattle.engine_types.specs.declared.Entry.{Entry}
use Rattle.engine_types.specs.declared.Slot.{Slot}
use Rattle.run_model.specs.Cuts.{IsRan, Ran}
use Rattle.run_model.specs.EngineRules.{Among, is_live}
use Rattle.run_model.specs.Journals.{Setup, seen_in}
use Rattle.run_model.specs.Labels.{is_of_slot}
use Rattle.run_model.specs.Legal.{IsLegal}
use Rattle.run_model.specs.Numbers.{places}
use Rattle.run_model.specs.Observation.{is_up}
use Rattle.run_model.specs.Plans.{IsWhole, slot_at}
use Rattle.run_model.specs.Rolling.{is_crossed}
use Rattle.run_model.specs.Runs.{IsWorldOfRun, Task, run_seen, run_setup}
use Rattle.run_model.specs.Worlds.{Changed, Move, World, entries_of, seen_effects}
use Rattle.world_laws.specs.Exactly.{found_containers}
use Rattle.world_laws.specs.OwnSpecs.{HasOwnSpecs}
use Rattle.rolling_update.specs.Moments.{lacks, was_live}

-- the Engine has changed nothing by itself since the first exchange of the observation, which lists the containers
abbrev pub IsUndisturbed : List Move → Type 0
IsUndisturbed [] = Unit {0}
IsUndisturbed (Changed ∷ moves) = seen_effects moves ≡ []
IsUndisturbed (_ ∷ moves) = IsUndisturbed moves

-- whether a live container of a slot is there: of several rows with one id the first alone counts
abbrev pub has_live : Declared → Engine → Slot → Bool
has_live declared engine slot = list_any
    (λ row. is_of_slot declared.project slot row.labels && is_live row.report.state)
    (found_containers engine)

-- whether the slot with this number is of a service, was seen live, and has no live container in the Engine
abbrev pub is_empty : Setup → Engine → List ℕ → ℕ → Bool
is_empty setup engine key s = option_map_or
    (λ slot. bytes_eq slot.service key && was_live setup slot
    && not (has_live setup.declared engine slot)) (slot_at setup.declared s) false

-- the numbers of these slots
abbrev pub empty_slots : Setup → Engine → List ℕ → List ℕ
empty_slots setup engine key = filter (is_empty setup engine key) (places setup.declared.slots)

-- in every run of `up`, over or not, and every world of its journal: at each moment after the observation, where nothing but the
-- run has changed the Engine since the listing, a slot that was seen live and isn't lacking has a live container in the Engine
abbrev pub FilledUnlessLacking : Type 0
FilledUnlessLacking =
    (task : Task) (journal : List Entry) (first now last : Engine) (later moves : List Move)
    (s : ℕ) (slot : Slot)
    → is_up task.aim.purpose ≡ true → IsWhole task.declared → HasOwnSpecs task.declared
    → IsLegal task.aim (run_setup task journal) (reverse journal)
    → IsWorldOfRun task journal first (later ++ moves) last
    → World (run_setup task journal) first moves now
    → is_some (seen_in (entries_of moves)) ≡ true → IsUndisturbed moves
    → slot_at task.declared s ≡ Some slot → was_live (run_setup task journal) slot ≡ true
    → lacks (run_setup task journal) moves slot.service s ≡ false
    → has_live task.declared now slot ≡ true

-- let a service replace so many of its slots at a time, and not be crossed. At each such moment no more of its slots that were
-- seen live have no live container in the Engine
abbrev pub EmptiesAtMost : Type 0
EmptiesAtMost =
    (task : Task) (journal : List Entry) (first now last : Engine) (later moves : List Move)
    (service : DeclaredService) (count : ℕ)
    → is_up task.aim.purpose ≡ true → IsWhole task.declared → HasOwnSpecs task.declared
    → IsLegal task.aim (run_setup task journal) (reverse journal)
    → IsWorldOfRun task journal first (later ++ moves) last
    → World (run_setup task journal) first moves now
    → is_some (seen_in (entries_of moves)) ≡ true → IsUndisturbed moves
    → Among task.declared.services service → service.roll ≡ Some count
    → is_crossed
    (record { declared = task.declared; seen = run_seen journal; aim = task.aim }) service.key
    ≡ false
    → length (empty_slots (run_setup task journal) now service.key) ≤ count

-- the same of a run that may have been cut off anywhere, and of what its requests that were left do later
abbrev pub CutRunsEmptyAtMost : Type 0
CutRunsEmptyAtMost =
    (declared : Declared) (images : List ℕ → List ℕ) (first now : Engine) (ran : Ran) (last : Engine)
    (later moves : List Move) (service : DeclaredService) (count : ℕ)
    → IsWhole declared → HasOwnSpecs declared → IsRan declared images first ran last
    → ran.moves ≡ later ++ moves → World ran.setup first moves now
    → is_some (seen_in (entries_of moves)) ≡ true → IsUndisturbed moves
    → Among declared.services service → service.roll ≡ Some count
    → is_crossed
    (record { declared = ran.setup.declared; seen = ran.setup.seen; aim = ran.aim }) service.key
    ≡ false
    → length (empty_slots ran.setup now service.key) ≤ count
