-- That a slot's container is made at most once, over runs of which each may have been cut off anywhere.
use Rattle.std.specs.Prelude.{◌≡◌, ◌⊎◌, ℕ, ◌+◌, ◌≤◌, Bool, true, false, List, ◌∷◌, Some, None, is_some, slice_get}
use Rattle.std.specs.Option.{option_map_or}
use Rattle.engine_types.specs.declared.ActionKind.{ActionKind}
use Rattle.engine_types.specs.declared.ActionKind.TheVariants.{CreateSlot, RemoveContainer, StopContainer, StopKept}
use Rattle.engine_types.specs.declared.Aim.{Aim}
use Rattle.engine_types.specs.declared.ContainerRow.{ContainerRow}
use Rattle.engine_types.specs.declared.Declared.{Declared}
use Rattle.engine_types.specs.declared.Engine.{Engine}
use Rattle.engine_types.specs.declared.Entry.{Entry}
use Rattle.engine_types.specs.declared.Listed.{Listed}
use Rattle.engine_types.specs.declared.Slot.{Slot}
use Rattle.run_model.specs.Cuts.{IsRan, Ran, Runs, TellsImages, creates, creates_over}
use Rattle.run_model.specs.EngineRules.{Among, container_at}
use Rattle.run_model.specs.Journals.{Setup, seen_in}
use Rattle.run_model.specs.Labels.{agrees}
use Rattle.run_model.specs.Observation.{is_up}
use Rattle.run_model.specs.Plans.{IsWhole, kept, kind_of, slot_at}
use Rattle.run_model.specs.Requests.{OfAction}
use Rattle.run_model.specs.Runs.{IsRun, IsWorldOfRun, Task}
use Rattle.run_model.specs.Worlds.{Move, effect_of, entries_of, is_unsure, outcome_of}
use Rattle.world_laws.specs.OwnSpecs.{HasOwnSpecs}

-- whether the container at an id agrees with a slot whose image has this id
abbrev pub agrees_at : Declared → Slot → List ℕ → Engine → List ℕ → Bool
agrees_at declared slot image engine id = option_map_or
    (λ row. agrees declared.project slot (Some image) row.labels row.image_id row.report.state)
    (container_at engine id) false

-- the request of an action of this kind is pending: the plan has the action, and it isn't claimed yet, or its request may still take
-- effect
pub record IsPending (setup : Setup) (moves : List Move) (a : ℕ) (kind : ActionKind) : Type 0 where
  pub begun : is_some (seen_in (entries_of moves)) ≡ true
  pub has : kind_of setup.actions a ≡ Some kind
  pub no_effect : effect_of moves (OfAction a) ≡ None
  pub unsure : is_unsure (outcome_of (entries_of moves) (OfAction a)) ≡ true

-- one container agrees with a slot, and no pending request removes it
pub record IsAlone (declared : Declared) (slot : Slot) (image : List ℕ) (setup : Setup) (moves : List Move)
    (engine : Engine) : Type 0 where
  pub id : List ℕ
  pub agrees : agrees_at declared slot image engine id ≡ true
  pub only : (other : List ℕ) → agrees_at declared slot image engine other ≡ true → other ≡ id
  pub spared : (a c : ℕ) (listed : Listed) → IsPending setup moves a (RemoveContainer c)
      → slice_get setup.seen.containers c ≡ Some listed → listed.id ≡ id → ⊥

-- a container that was seen is still there, with its labels and its image
pub record IsStillThere (engine : Engine) (listed : Listed) : Type 0 where
  pub row : ContainerRow
  pub is_there : container_at engine listed.id ≡ Some row
  pub labels : row.labels ≡ listed.labels
  pub image_id : row.image_id ≡ listed.image_id

-- how a slot stands, of which so many containers were made in all, after these moves of the present run: at most one create of it
-- is pending; where one is, none was made and no container agrees with the slot; where one was made, it is there, it alone
-- agrees, and nothing pending removes it; and each pending stop or remove is of a container that was seen and is still there
pub record IsOnce (declared : Declared) (s : ℕ) (slot : Slot) (image : List ℕ) (n : ℕ) (setup : Setup)
    (moves : List Move) (engine : Engine) : Type 0 where
  pub one_create : (a b : ℕ) → IsPending setup moves a (CreateSlot s)
      → IsPending setup moves b (CreateSlot s) → a ≡ b
  pub none_yet : (a : ℕ) → IsPending setup moves a (CreateSlot s) → n ≡ 0
  pub none_agrees : (a : ℕ) → IsPending setup moves a (CreateSlot s) → (id : List ℕ)
      → agrees_at declared slot image engine id ≡ false
  pub made : (n ≡ 0) ⊎ ((n ≡ 1) × IsAlone declared slot image setup moves engine)
  pub stops : (a c : ℕ) → IsPending setup moves a (StopContainer c) → (listed : Listed)
      × (slice_get setup.seen.containers c ≡ Some listed) × IsStillThere engine listed
  pub removes : (a c : ℕ) → IsPending setup moves a (RemoveContainer c) → (listed : Listed)
      × (slice_get setup.seen.containers c ≡ Some listed) × IsStillThere engine listed
  pub kept_stops : (a t : ℕ) → IsPending setup moves a (StopKept t) → (listed : Listed)
      × (kept setup.declared setup.seen t ≡ Some listed) × IsStillThere engine listed

-- so stands each slot after any number of runs of `up` one after another over one declared set, each whole or cut off anywhere
abbrev pub OnceAcrossRuns : Type 0
OnceAcrossRuns =
    (declared : Declared) (images : List ℕ → List ℕ) (first : Engine) (ran : Ran) (earlier : List Ran)
    (last : Engine) → IsWhole declared → HasOwnSpecs declared
    → Runs declared images first (ran ∷ earlier) last
    → (s : ℕ) (slot : Slot) → slot_at declared s ≡ Some slot
    → IsOnce declared s slot (images slot.image) (creates_over declared slot (ran ∷ earlier))
    ran.setup ran.moves last

-- over any number of runs of `up` one after another over one declared set, each whole or cut off anywhere, at most one container is
-- made for a slot
abbrev pub MadeOnceAcrossRuns : Type 0
MadeOnceAcrossRuns =
    (declared : Declared) (images : List ℕ → List ℕ) (first : Engine) (runs : List Ran)
    (last : Engine) → IsWhole declared → HasOwnSpecs declared
    → Runs declared images first runs last
    → (slot : Slot) → Among declared.slots slot → creates_over declared slot runs ≤ 1

-- the same with a whole run as the last one
abbrev pub MadeOnceAfterRuns : Type 0
MadeOnceAfterRuns =
    (task : Task) (journal : List Entry) (images : List ℕ → List ℕ) (first mid last : Engine)
    (earlier : List Ran) (moves : List Move) → is_up task.aim.purpose ≡ true
    → IsWhole task.declared → HasOwnSpecs task.declared
    → Runs task.declared images first earlier mid
    → IsRun task journal → IsWorldOfRun task journal mid moves last → TellsImages images journal
    → (slot : Slot) → Among task.declared.slots slot
    → creates task.declared slot moves + creates_over task.declared slot earlier ≤ 1

-- a run may be cut off after each of its moves: without its latest move it is a run, too
abbrev pub CutsAnywhere : Type 0
CutsAnywhere =
    (declared : Declared) (images : List ℕ → List ℕ) (first : Engine) (aim : Aim) (setup : Setup)
    (move : Move) (moves : List Move) (last : Engine)
    → (is : IsRan declared images first
    (record { aim = aim; setup = setup; moves = move ∷ moves }) last)
    → IsRan declared images first (record { aim = aim; setup = setup; moves = moves }) is.world.0
