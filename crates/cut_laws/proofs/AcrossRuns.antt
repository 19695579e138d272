-- Over runs one after another, each of which may have been cut off anywhere, a slot's container is made at most once.
use Rattle.std.proofs.Common.{◌≡◌, ◌⊎◌, ℕ, ◌+◌, ◌≤◌, true, false, List, [], ◌∷◌, reverse, Option, Some, None, refl, sym, ◌∙◌, subst, inl, inr, arith}
use Rattle.std.proofs.lemmas.List.{reverse-reverse}
use Rattle.engine_types.specs.declared.ActionKind.{ActionKind}
use Rattle.engine_types.specs.declared.Declared.{Declared}
use Rattle.engine_types.specs.declared.Engine.{Engine}
use Rattle.engine_types.specs.declared.Entry.{Entry}
use Rattle.engine_types.specs.declared.Observed.{Observed}
use Rattle.engine_types.specs.declared.Seen.{Seen}
use Rattle.engine_types.specs.declared.Slot.{Slot}
use Rattle.run_model.specs.Cuts.{IsCutJournal, IsCutSeeing, IsRan, Ran, Runs, TellsImages, creates, creates_over}
use Rattle.run_model.specs.Journals.{Setup, seen_in}
use Rattle.run_model.specs.Legal.{IsLegal, IsObserved}
use Rattle.run_model.specs.Plans.{HasPlan, IsWhole, seen_image, slot_at}
use Rattle.run_model.specs.Runs.{run_setup}
use Rattle.run_model.specs.Worlds.{Move, entries_of}
use Rattle.run_model.proofs.DistinctLists.{at_place, from_place}
use Rattle.run_model.proofs.RollLaws.{has_plan}
use Rattle.world_laws.specs.OwnSpecs.{HasOwnSpecs}
use Rattle.world_laws.proofs.Asked.{begun_seen}
use Rattle.world_laws.proofs.Finished.{IsRunning, basis_of}
use Rattle.cut_laws.specs.Once.{IsAlone, IsOnce, IsPending, MadeOnceAcrossRuns, MadeOnceAfterRuns, OnceAcrossRuns}
use Rattle.cut_laws.proofs.Agreeing.{HasAlone}
use Rattle.cut_laws.proofs.Begun.{begun_once}
use Rattle.cut_laws.proofs.Images.{sees_images, tells_latest_first}
use Rattle.cut_laws.proofs.Looking.{AllLook, cut_effects_look, looks_alone, looks_before, never_empty, observed_looks, unbegun}
use Rattle.cut_laws.proofs.Quiet.{IsQuiet, quiet}

-- between runs: none was made yet, or one was, and it alone agrees
abbrev Between : Declared → Slot → List ℕ → ℕ → Engine → Type 0
Between declared slot image n engine = (n ≡ 0) ⊎ ((n ≡ 1) × HasAlone declared slot image engine)

-- any run, whole or cut off anywhere
module _ (declared : Declared) (whole : IsWhole declared) (own : HasOwnSpecs declared) (images : List ℕ → List ℕ) (s : ℕ) (slot : Slot) (slot_is : slot_at declared s ≡ Some slot) where
  -- how the slot stands after a run that so many were made before
  abbrev Stands : Ran → ℕ → Engine → Type 0
  Stands ran n last = IsOnce declared s slot (images slot.image) (creates declared slot ran.moves + n) ran.setup ran.moves last

  -- a run whose observation didn't end well has nothing pending, and makes none
  quiet_run : (first last : Engine) (ran : Ran) → IsRan declared images first ran last → AllLook ran.moves → seen_in (entries_of ran.moves) ≡ None
      → (n : ℕ) → Between declared slot (images slot.image) n first → Stands ran n last
  quiet_run first last ran is looks none n before = record {
    one_create = λ a b p q. absurd (never _ a p);
    none_yet = λ a p. absurd (never _ a p);
    none_agrees = λ a p. absurd (never _ a p);
    made = at before;
    stops = λ a c p. absurd (never _ a p);
    removes = λ a c p. absurd (never _ a p);
    kept_stops = λ a t p. absurd (never _ a p);
  }
    where
      never : (kind : ActionKind) (a : ℕ) → IsPending ran.setup ran.moves a kind → ⊥
      never kind a p = let bad : false ≡ true = rw none at p.begun in cc bad

      q : IsQuiet declared slot (images slot.image) first ran.moves last
      q = quiet declared slot (images slot.image) ran.setup first ran.moves last is.world looks

      at : (n ≡ 0) ⊎ ((n ≡ 1) × HasAlone declared slot (images slot.image) first)
          → (creates declared slot ran.moves + n ≡ 0) ⊎ ((creates declared slot ran.moves + n ≡ 1) × IsAlone declared slot (images slot.image) ran.setup ran.moves last)
      at (inl zero) = let made = q.none in inl (omega (arith, made, zero))
      at (inr (one, has)) =
          let made = q.none in let alone = q.stays has in
          inr (omega (arith, made, one), record { id = alone.id; agrees = alone.agrees; only = alone.only; spared = λ a c listed p e same. never _ a p })

  over_run : (first last : Engine) (ran : Ran) → IsRan declared images first ran last → (n : ℕ) → Between declared slot (images slot.image) n first → Stands ran n last
  over_run first last ran is n before = at (entries_of ran.moves) refl
    where
      setup : Setup
      setup = ran.setup

      cut : IsCutSeeing ran.aim setup ran.moves → entries_of ran.moves ≡ [] → AllLook ran.moves
      cut seeing none = looks_before setup first ran.moves last is.world none (cut_effects_look ran.aim setup ran.moves seeing)

      begun : IsLegal ran.aim setup (entries_of ran.moves) → (seen : Seen) → seen_in (entries_of ran.moves) ≡ Some seen → Stands ran n last
      begun legal seen e = subst (λ (d : Declared). IsOnce d s slot (images slot.image) (creates d slot ran.moves + n) setup ran.moves last) is.declares
          (begun_once ran.aim setup first s slot there (images slot.image) image_is ran.moves last run n
          (subst (λ (d : Declared). Between d slot (images slot.image) n first) (sym is.declares) before))
        where
          there : slot_at setup.declared s ≡ Some slot
          there = subst (λ (d : Declared). slot_at d s ≡ Some slot) (sym is.declares) slot_is

          plan : HasPlan (basis_of ran.aim setup) setup.actions
          plan = subst (HasPlan (basis_of ran.aim setup)) (sym is.plan) (has_plan (basis_of ran.aim setup))

          saw : seen_in (entries_of ran.moves) ≡ Some setup.seen
          saw = begun_seen ran.aim setup (entries_of ran.moves) legal (rw e refl)

          run : IsRunning ran.aim setup first ran.moves last
          run = record {
            up = is.up;
            whole = subst IsWhole (sym is.declares) whole;
            own = subst HasOwnSpecs (sym is.declares) own;
            plan = plan;
            legal = legal;
            saw = saw;
            world = is.world;
          }

          image_is : seen_image setup.seen slot ≡ Some (images slot.image)
          image_is = sees_images images ran.aim setup is.up (entries_of ran.moves) legal saw is.told slot (from_place setup.declared.slots s slot there)

      legally : IsLegal ran.aim setup (entries_of ran.moves) → (entries_of ran.moves ≡ [] → ⊥) → Stands ran n last
      legally legal some = by (seen_in (entries_of ran.moves)) refl
        where
          alone : seen_in (entries_of ran.moves) ≡ None
              → (entries_of ran.moves ≡ []) ⊎ ((observation : Observed) × (entries_of ran.moves ≡ Entry.Seen observation ∷ []) × IsObserved setup.declared ran.aim observation)
              → Stands ran n last
          alone e (inl none) = absurd (some none)
          alone e (inr one) = quiet_run first last ran is
              (looks_alone setup first one.0 (observed_looks ran.aim setup one.0 one.2) ran.moves last is.world one.1) e n before

          by : (o : Option Seen) → seen_in (entries_of ran.moves) ≡ o → Stands ran n last
          by (Some seen) e = begun legal seen e
          by None e = alone e (unbegun ran.aim setup (entries_of ran.moves) legal e)

      at : (past : List Entry) → entries_of ran.moves ≡ past → Stands ran n last
      at [] none = let seeing : IsCutSeeing ran.aim setup ran.moves = rw none at is.journal in quiet_run first last ran is (cut seeing none) (rw none refl) n before
      at (entry ∷ past) e =
          let legal : IsLegal ran.aim setup (entry ∷ past) = rw e at is.journal in
          legally (rw e legal) (λ none. let bad : entry ∷ past ≡ [] = sym e ∙ none in cc bad)

  between : (setup : Setup) (moves : List Move) (n : ℕ) (engine : Engine) → IsOnce declared s slot (images slot.image) n setup moves engine → Between declared slot (images slot.image) n engine
  between setup moves n engine once = at once.made
    where
      at : (n ≡ 0) ⊎ ((n ≡ 1) × IsAlone declared slot (images slot.image) setup moves engine) → Between declared slot (images slot.image) n engine
      at (inl none) = inl none
      at (inr (one, alone)) = inr (one, record { id = alone.id; agrees = alone.agrees; only = alone.only })

  once_so_far : (first : Engine) (ran : Ran) (earlier : List Ran) (last : Engine) → Runs declared images first (ran ∷ earlier) last
      → Stands ran (creates_over declared slot earlier) last
  once_so_far first ran [] last is = over_run is.0 last ran is.2 0 (inl refl)
  once_so_far first ran (before ∷ earlier) last is =
      over_run is.0 last ran is.2 (creates_over declared slot (before ∷ earlier))
      (between before.setup before.moves (creates_over declared slot (before ∷ earlier)) is.0 (once_so_far first before earlier is.0 is.1))

pub once_across_runs : OnceAcrossRuns
once_across_runs declared images first ran earlier last whole own is s slot slot_is =
    once_so_far declared whole own images s slot slot_is first ran earlier last is

pub made_once_across_runs : MadeOnceAcrossRuns
made_once_across_runs declared images first [] last whole own is slot m = omega arith
made_once_across_runs declared images first (ran ∷ earlier) last whole own is slot m =
    let s = at_place declared.slots slot m in
    at (once_so_far declared whole own images s.0 slot s.1 first ran earlier last is).made
  where
    at : {P : Type 0} → (creates_over declared slot (ran ∷ earlier) ≡ 0) ⊎ ((creates_over declared slot (ran ∷ earlier) ≡ 1) × P) → creates_over declared slot (ran ∷ earlier) ≤ 1
    at (inl none) = omega (arith, none)
    at (inr (one, alone)) = omega (arith, one)

-- a whole run as one of the runs
pub made_once_after_runs : MadeOnceAfterRuns
made_once_after_runs task journal images first mid last earlier moves up whole own before run world told slot m =
    made_once_across_runs task.declared images first (record { aim = task.aim; setup = setup; moves = moves } ∷ earlier) last whole own
    (mid, before, record { declares = refl; up = up; plan = refl; journal = at (reverse journal) refl; told = tells; world = world.world }) slot m
  where
    setup : Setup
    setup = run_setup task journal

    tells : TellsImages images (entries_of moves)
    tells = subst (TellsImages images) (sym world.journal)
        (tells_latest_first images task.aim setup (reverse journal) run.legal (subst (TellsImages images) (sym (reverse-reverse journal)) told))

    at : (past : List Entry) → reverse journal ≡ past → IsCutJournal task.aim setup moves
    at [] e = absurd (never_empty setup (reverse journal) run.over e)
    at (entry ∷ past) e =
        let legal : IsLegal task.aim setup (entry ∷ past) = subst (λ (l : List Entry). IsLegal task.aim setup l) e run.legal in
        rw (world.journal ∙ e) legal
