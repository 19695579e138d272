-- That runs of `up` spare the containers that their slots keep, whole or cut off anywhere, one run after another.
use Rattle.std.specs.Prelude.{◌≡◌, ◌⊎◌, ℕ, Bool, true, false, List, [], ◌∷◌, None, Some, slice_get}
use Rattle.std.specs.List.{list_any}
use Rattle.std.specs.Option.{option_map_or}
use Rattle.std.specs.Str.{bytes_eq}
use Rattle.engine_types.specs.declared.ActionKind.TheVariants.{CreateSlot, StopContainer, StopKept}
use Rattle.engine_types.specs.declared.Aim.{Aim}
use Rattle.engine_types.specs.declared.Declared.{Declared}
use Rattle.engine_types.specs.declared.Engine.{Engine}
use Rattle.engine_types.specs.declared.Listed.{Listed}
use Rattle.engine_types.specs.declared.Request.{Request}
use Rattle.engine_types.specs.declared.Slot.{Slot}
use Rattle.run_model.specs.Cuts.{IsRan, Ran, Runs}
use Rattle.run_model.specs.EngineRules.{Among}
use Rattle.run_model.specs.Journals.{Setup}
use Rattle.run_model.specs.Plans.{HasServices, is_removed, is_restarted, kept, kept_of, kind_of, slot_at}
use Rattle.run_model.specs.Requests.{OfAction, Source}
use Rattle.run_model.specs.Worlds.{Move, Took}

-- whether some slot keeps the container with this id
abbrev pub keeps_id : Setup → List ℕ → Bool
keeps_id setup id =
    list_any (λ slot. option_map_or (λ row. bytes_eq row.id id)
    (kept_of setup.declared setup.seen slot) false) setup.declared.slots

-- the exchange is a stop that the plan has of a container that is to go, and that no slot keeps
pub record StopsRemoved (aim : Aim) (setup : Setup) (source : Source) (id : List ℕ) : Type 0 where
  pub action : ℕ
  pub place : ℕ
  pub row : Listed
  pub made_by : source ≡ OfAction action
  pub kind : kind_of setup.actions action ≡ Some (StopContainer place)
  pub row_is : slice_get setup.seen.containers place ≡ Some row
  pub its_id : row.id ≡ id
  pub removed : is_removed (record { declared = setup.declared; seen = setup.seen; aim = aim }) row
      ≡ true
  pub unkept : keeps_id setup id ≡ false

-- the exchange is a stop that the plan has of the container that a slot keeps, to start it anew: the container is live, and a need
-- of the slot asks for a restart
pub record StopsToRestart (setup : Setup) (source : Source) (id : List ℕ) : Type 0 where
  pub action : ℕ
  pub number : ℕ
  pub slot : Slot
  pub row : Listed
  pub made_by : source ≡ OfAction action
  pub kind : kind_of setup.actions action ≡ Some (StopKept number)
  pub slot_is : slot_at setup.declared number ≡ Some slot
  pub keeps : kept_of setup.declared setup.seen slot ≡ Some row
  pub its_id : row.id ≡ id
  pub asked : is_restarted setup.declared setup.seen slot ≡ true

-- the exchange is the create of a slot that keeps no container
pub record CreatesMissing (setup : Setup) (source : Source) : Type 0 where
  pub action : ℕ
  pub number : ℕ
  pub made_by : source ≡ OfAction action
  pub kind : kind_of setup.actions action ≡ Some (CreateSlot number)
  pub keeps_none : kept setup.declared setup.seen number ≡ None

-- a request spares what the slots keep: it stops only what is to go, or a kept container to restart it, removes no kept one, and
-- makes none for a slot that keeps one
abbrev pub SparesKeptBy : Aim → Setup → Source → Request → Type 0
SparesKeptBy aim setup source (Request.Stop id seconds) =
    StopsRemoved aim setup source id ⊎ StopsToRestart setup source id
SparesKeptBy aim setup source (Request.Remove id) = keeps_id setup id ≡ false
SparesKeptBy aim setup source (Request.Create name spec) = CreatesMissing setup source
SparesKeptBy aim setup source request = Unit {0}

-- each effect among these moves spares what the slots keep
abbrev pub SparesAlong : Aim → Setup → List Move → Type 0
SparesAlong aim setup [] = Unit {0}
SparesAlong aim setup (Took source request reply ∷ moves) =
    SparesKeptBy aim setup source request × SparesAlong aim setup moves
SparesAlong aim setup (_ ∷ moves) = SparesAlong aim setup moves

-- where each slot is of a declared service, each effect of a run of `up` spares what its slots keep, wherever the run was cut off
abbrev pub CutRunSparesKept : Type 0
CutRunSparesKept =
    (declared : Declared) (images : List ℕ → List ℕ) (first : Engine) (ran : Ran) (last : Engine)
    → HasServices declared → IsRan declared images first ran last
    → SparesAlong ran.aim ran.setup ran.moves

-- the same of each of several runs, one after another
abbrev pub CutRunsSpareKept : Type 0
CutRunsSpareKept =
    (declared : Declared) (images : List ℕ → List ℕ) (first : Engine) (runs : List Ran)
    (last : Engine) → HasServices declared → Runs declared images first runs last
    → (ran : Ran) → Among runs ran → SparesAlong ran.aim ran.setup ran.moves
