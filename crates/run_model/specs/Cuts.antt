-- Runs of `up` one after another, each of which may have been cut off anywhere.
use Rattle.std.specs.Prelude.{◌≡◌, ℕ, ◌+◌, Bool, true, false, if◌then◌else◌, List, [], ◌∷◌, reverse}
use Rattle.engine_types.specs.declared.Aim.{Aim}
use Rattle.engine_types.specs.declared.Declared.{Declared}
use Rattle.engine_types.specs.declared.Engine.{Engine}
use Rattle.engine_types.specs.declared.Entry.{Entry}
use Rattle.engine_types.specs.declared.Exchange.{Exchange}
use Rattle.engine_types.specs.declared.Reply.{Reply}
use Rattle.engine_types.specs.declared.Request.{Request}
use Rattle.engine_types.specs.declared.Slot.{Slot}
use Rattle.run_model.specs.EngineRules.{Among}
use Rattle.run_model.specs.Journals.{Setup}
use Rattle.run_model.specs.Labels.{is_of_slot}
use Rattle.run_model.specs.Legal.{IsLegal}
use Rattle.run_model.specs.Observation.{is_asked, is_up, observed}
use Rattle.run_model.specs.Rolling.{run_actions}
use Rattle.run_model.specs.Told.{answered}
use Rattle.run_model.specs.Worlds.{FitsSeen, Move, Took, World, entries_of, seen_effects}

-- a run, whole or cut: what it is of, and its moves, newest first. What the Engine and the requests that are left do before the
-- next run begins are its latest moves
pub record Ran : Type 0 where
  pub aim : Aim
  pub setup : Setup
  pub moves : List Move

-- a run that was cut inside its observation: its effects are those of the first exchanges of one, of which the last may be
-- open and then counts as one that met want of memory
pub record IsCutSeeing (aim : Aim) (setup : Setup) (moves : List Move) : Type 0 where
  pub exchanges : List Exchange
  pub asked : is_asked (observed setup.declared aim.purpose exchanges) ≡ true
  pub effects : FitsSeen (reverse exchanges) (seen_effects moves)

-- the journal of a run that may have been cut: nothing yet, in the midst of its observation, or the first entries of a legal one
abbrev pub IsCutJournal : Aim → Setup → List Move → Type 0
IsCutJournal aim setup moves = Stands (entries_of moves)
  where
    Stands : List Entry → Type 0
    Stands [] = IsCutSeeing aim setup moves
    Stands past = IsLegal aim setup past

-- the journal agrees with these ids of images: each look at an image that its observation was answered tells the image's one id
abbrev pub TellsImages : (List ℕ → List ℕ) → List Entry → Type 0
TellsImages images [] = Unit {0}
TellsImages images (Entry.Seen observation ∷ past) = (name id : List ℕ)
    → Among observation.exchanges (answered (Request.Image name) (Reply.ImageId id)) → id ≡ images name
TellsImages images (_ ∷ past) = TellsImages images past

-- a run of `up` over the declared set, whole or cut, from one Engine to another
pub record IsRan (declared : Declared) (images : List ℕ → List ℕ) (first : Engine) (ran : Ran)
    (last : Engine) : Type 0 where
  pub declares : ran.setup.declared ≡ declared
  pub up : is_up ran.aim.purpose ≡ true
  pub plan : ran.setup.actions
      ≡ run_actions (record { declared = ran.setup.declared; seen = ran.setup.seen; aim = ran.aim })
  pub journal : IsCutJournal ran.aim ran.setup ran.moves
  pub told : TellsImages images (entries_of ran.moves)
  pub world : World ran.setup first ran.moves last

-- runs one after another, the latest first: each begins where the one before stopped
abbrev pub Runs : Declared → (List ℕ → List ℕ) → Engine → List Ran → Engine → Type 0
Runs declared images first [] last = last ≡ first
Runs declared images first (ran ∷ earlier) last =
    (mid : Engine) × Runs declared images first earlier mid × IsRan declared images mid ran last

-- whether an effect made a container of a slot
abbrev pub is_made_by : Declared → Slot → Request → Reply → Bool
is_made_by declared slot (Request.Create name spec) (Reply.Made id) =
    is_of_slot declared.project slot spec.labels
is_made_by declared slot _ _ = false

-- how many effects made a container of a slot
abbrev pub creates : Declared → Slot → List Move → ℕ
creates declared slot [] = 0
creates declared slot (Took source request reply ∷ moves) =
    if is_made_by declared slot request reply then creates declared slot moves + 1
    else creates declared slot moves
creates declared slot (_ ∷ moves) = creates declared slot moves

-- how many effects of all runs made a container of a slot
abbrev pub creates_over : Declared → Slot → List Ran → ℕ
creates_over declared slot [] = 0
creates_over declared slot (ran ∷ earlier) =
    creates declared slot ran.moves + creates_over declared slot earlier
