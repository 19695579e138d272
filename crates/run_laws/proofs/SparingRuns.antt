-- Runs of `up`, whole or cut off anywhere, spare what their slots keep.
use Rattle.std.proofs.Common.{◌≡◌, ℕ, Bool, true, false, List, [], ◌∷◌, Option, Some, None, slice_get, refl, sym, ◌∙◌, subst, inl, inr}
use Rattle.std.proofs.lemmas.Bool.{both_ways}
use Rattle.engine_types.specs.declared.ActionKind.{ActionKind}
use Rattle.engine_types.specs.declared.ActionKind.TheVariants.{CreateSlot, RemoveContainer, StopContainer, StopKept}
use Rattle.engine_types.specs.declared.Aim.{Aim}
use Rattle.engine_types.specs.declared.Engine.{Engine}
use Rattle.engine_types.specs.declared.Entry.{Entry}
use Rattle.engine_types.specs.declared.Listed.{Listed}
use Rattle.engine_types.specs.declared.Request.{Request}
use Rattle.engine_types.specs.declared.Slot.{Slot}
use Rattle.run_model.specs.Cuts.{IsCutSeeing, Ran}
use Rattle.run_model.specs.EngineRules.{Among}
use Rattle.run_model.specs.Journals.{Setup}
use Rattle.run_model.specs.Legal.{IsLegal}
use Rattle.run_model.specs.Observation.{is_up}
use Rattle.run_model.specs.Plans.{Basis, HasPlan, HasServices, LeavesKept, is_kept, is_restarted, is_wanted, kept, kept_of, kind_of, slot_at}
use Rattle.run_model.specs.Requests.{OfAction, OfPoll, OfSeen, Source, asked, request_of}
use Rattle.run_model.specs.Worlds.{Changed, Did, Effect, MayAct, Move, Took, World, entries_of, is_unsure, outcome_of, seen_effects}
use Rattle.run_model.proofs.KeptLaws.{leaves_kept}
use Rattle.run_model.proofs.PlanLaws.{both, some_from}
use Rattle.run_model.proofs.RollLaws.{carries, has_plan}
use Rattle.world_laws.proofs.ActionRequests.{IsOfKind, map_from, of_kind, then_from}
use Rattle.world_laws.proofs.Asked.{begun_seen}
use Rattle.world_laws.proofs.Claimed as claimed
use Rattle.world_laws.proofs.Claimed.{poll_inspects}
use Rattle.world_laws.proofs.Finished.{basis_of}
use Rattle.world_laws.proofs.Observing.{ids_differ, seen_by}
use Rattle.cut_laws.proofs.Looking.{begun_of, cut_effects_look, first_looks, is_looking, seen_looks}
use Rattle.run_laws.specs.Sparing.{CutRunSparesKept, CutRunsSpareKept, SparesAlong, SparesKeptBy}

-- a look spares what the slots keep
look_spares : (aim : Aim) (setup : Setup) (source : Source) (request : Request) → is_looking request ≡ true → SparesKeptBy aim setup source request
look_spares aim setup source (Request.ListContainers project) e = tt
look_spares aim setup source Request.ListNetworks e = tt
look_spares aim setup source Request.ListVolumes e = tt
look_spares aim setup source (Request.Image name) e = tt
look_spares aim setup source (Request.Pull name) e = tt
look_spares aim setup source _ e = absurd (cc e)

module _ (aim : Aim) (setup : Setup) (up : is_up aim.purpose ≡ true) (owned : HasServices setup.declared) (plan : HasPlan (basis_of aim setup) setup.actions) where
  abbrev basis : Basis
  basis = basis_of aim setup

  -- the request of a wanted action spares what the slots keep
  wanted_spares : (leaves : LeavesKept basis) (a : ℕ) (tail : List Entry) (request : Request) (kind : ActionKind) → IsOfKind setup kind request
      → kind_of setup.actions a ≡ Some kind → is_wanted basis kind ≡ true → request_of setup tail kind ≡ Some request → SparesKeptBy aim setup (OfAction a) request
  wanted_spares leaves a tail (Request.Stop id seconds) (StopContainer c) fits k w e =
      let r = map_from _ (slice_get setup.seen.containers c) (Request.Stop id seconds) e in
      let row : Listed = r.0 in
      let same : row.id ≡ id = cc r.2 in
      inl (record {
        action = a;
        place = c;
        row = row;
        made_by = refl;
        kind = k;
        row_is = r.1;
        its_id = same;
        removed = rw r.1 at w;
        unkept = subst (λ (i : List ℕ). is_kept setup.declared setup.seen (record row { id = i }) ≡ false) same (on row r.1 (is_kept setup.declared setup.seen row) refl);
      })
    where
      on : (row : Listed) → slice_get setup.seen.containers c ≡ Some row → (t : Bool) → is_kept setup.declared setup.seen row ≡ t → is_kept setup.declared setup.seen row ≡ false
      on row there false h = h
      on row there true h = absurd (both_ways _ (leaves.stops c row there h) w)
  wanted_spares leaves a tail (Request.Stop id seconds) (StopKept s) fits k w e =
      let slot = then_from _ (slot_at setup.declared s) (Request.Stop id seconds) e in
      let row = map_from _ (kept_of setup.declared setup.seen slot.0) (Request.Stop id seconds) slot.2 in
      let same : row.0.id ≡ id = cc row.2 in
      let wanted = some_from (is_restarted setup.declared setup.seen) (slot_at setup.declared s) (both (is_up aim.purpose) _ w).1 in
      let one : Some wanted.0 ≡ Some slot.0 = sym wanted.1 ∙ slot.1 in
      let slots : wanted.0 ≡ slot.0 = cc one in
      inr (record {
        action = a;
        number = s;
        slot = slot.0;
        row = row.0;
        made_by = refl;
        kind = k;
        slot_is = slot.1;
        keeps = row.1;
        its_id = same;
        asked = subst (λ (x : Slot). is_restarted setup.declared setup.seen x ≡ true) slots wanted.2;
      })
  wanted_spares leaves a tail (Request.Stop id seconds) _ fits k w e = absurd fits
  wanted_spares leaves a tail (Request.Remove id) (RemoveContainer c) fits k w e =
      let r = map_from _ (slice_get setup.seen.containers c) (Request.Remove id) e in
      let row : Listed = r.0 in
      let same : row.id ≡ id = cc r.2 in
      subst (λ (i : List ℕ). is_kept setup.declared setup.seen (record row { id = i }) ≡ false) same (on row r.1 (is_kept setup.declared setup.seen row) refl)
    where
      on : (row : Listed) → slice_get setup.seen.containers c ≡ Some row → (t : Bool) → is_kept setup.declared setup.seen row ≡ t → is_kept setup.declared setup.seen row ≡ false
      on row there false h = h
      on row there true h = absurd (both_ways _ (leaves.removes c row there h) w)
  wanted_spares leaves a tail (Request.Remove id) _ fits k w e = absurd fits
  wanted_spares leaves a tail (Request.Create name spec) (CreateSlot s) fits k w e =
      record { action = a; number = s; made_by = refl; kind = k; keeps_none = at (kept setup.declared setup.seen s) refl }
    where
      at : (o : Option Listed) → kept setup.declared setup.seen s ≡ o → kept setup.declared setup.seen s ≡ None
      at None h = h
      at (Some row) h = absurd (both_ways _ (leaves.creates s row h) w)
  wanted_spares leaves a tail (Request.Create name spec) _ fits k w e = absurd fits
  wanted_spares leaves a tail _ kind fits k w e = tt

  -- what was asked for an action spares what the slots keep
  action_spares : (past : List Entry) (a : ℕ) (request : Request) → IsLegal aim setup past → asked setup past (OfAction a) ≡ Some request
      → SparesKeptBy aim setup (OfAction a) request
  action_spares past a request legal e =
      let q = claimed.is_asked setup past a request e in
      let seen = seen_by aim setup past setup.seen legal (begun_seen aim setup past legal (begun_of aim setup past q.tail q.worker a legal q.claimed)) in
      wanted_spares (leaves_kept basis up owned (ids_differ setup.declared aim setup.seen seen)) a q.tail request q.kind
      (of_kind setup q.tail q.kind request q.request_is) q.kind_is ((carries basis setup.actions plan).wanted a q.kind q.kind_is) q.request_is

  -- each effect of a world spares what the slots keep, where those of an observation that isn't in the journal yet look
  spares_along : (first : Engine) (moves : List Move) (last : Engine) → World setup first moves last → IsLegal aim setup (entries_of moves)
      → (entries_of moves ≡ [] → (effect : Effect) → Among (seen_effects moves) effect → is_looking effect.request ≡ true) → SparesAlong aim setup moves
  spares_along first [] last world legal looks = tt
  spares_along first (Did entry ∷ moves) last world legal looks =
      spares_along first moves world.0 world.1 legal.0 (λ none. first_looks aim setup moves entry none legal.1 world.2.0)
  spares_along first (Took (OfSeen i) request reply ∷ moves) last world legal looks =
      (here (entries_of moves) refl, spares_along first moves world.0 world.1 legal (λ none effect m. looks none effect (inr m)))
    where
      here : (past : List Entry) → entries_of moves ≡ past → SparesKeptBy aim setup (OfSeen i) request
      here [] none = look_spares aim setup (OfSeen i) request (looks none (record { request = request; reply = reply }) (inl refl))
      here (entry ∷ past) e =
          let may : MayAct setup moves (OfSeen i) request = world.2.0.may_act in
          let told : (asked setup (entry ∷ past) (OfSeen i) ≡ Some request) × (is_unsure (outcome_of (entry ∷ past) (OfSeen i)) ≡ true) = rw e at may in
          let lawful : IsLegal aim setup (entry ∷ past) = rw e at legal in
          look_spares aim setup (OfSeen i) request (seen_looks aim setup (entry ∷ past) i request lawful told.0)
  spares_along first (Took (OfAction a) request reply ∷ moves) last world legal looks =
      (action_spares (entries_of moves) a request legal world.2.0.may_act.0, spares_along first moves world.0 world.1 legal looks)
  spares_along first (Took (OfPoll n) request reply ∷ moves) last world legal looks =
      let r = poll_inspects setup (entries_of moves) n request world.2.0.may_act.0 in
      (subst (λ (q : Request). SparesKeptBy aim setup (OfPoll n) q) (sym r.1) tt, spares_along first moves world.0 world.1 legal looks)
  spares_along first (Changed ∷ moves) last world legal looks = spares_along first moves world.0 world.1 legal looks

pub cut_run_spares : CutRunSparesKept
cut_run_spares declared images first ran last owned is = at (entries_of ran.moves) refl
  where
    here : HasServices ran.setup.declared
    here = subst HasServices (sym is.declares) owned

    plan : HasPlan (basis_of ran.aim ran.setup) ran.setup.actions
    plan = subst (HasPlan (basis_of ran.aim ran.setup)) (sym is.plan) (has_plan (basis_of ran.aim ran.setup))

    at : (past : List Entry) → entries_of ran.moves ≡ past → SparesAlong ran.aim ran.setup ran.moves
    at [] none =
        let seeing : IsCutSeeing ran.aim ran.setup ran.moves = rw none at is.journal in
        let lawful : IsLegal ran.aim ran.setup (entries_of ran.moves) = rw none tt in
        spares_along ran.aim ran.setup is.up here plan first ran.moves last is.world lawful (λ e. cut_effects_look ran.aim ran.setup ran.moves seeing)
    at (entry ∷ past) e =
        let legal : IsLegal ran.aim ran.setup (entry ∷ past) = rw e at is.journal in
        let lawful : IsLegal ran.aim ran.setup (entries_of ran.moves) = rw e legal in
        spares_along ran.aim ran.setup is.up here plan first ran.moves last is.world lawful (λ none.
        let bad : entry ∷ past ≡ [] = sym e ∙ none in absurd (cc bad))

pub cut_runs_spare : CutRunsSpareKept
cut_runs_spare declared images first [] last owned runs ran m = absurd m
cut_runs_spare declared images first (latest ∷ earlier) last owned runs ran (inl e) =
    subst (λ (r : Ran). SparesAlong r.aim r.setup r.moves) (sym e) (cut_run_spares declared images runs.0 latest last owned runs.2)
cut_runs_spare declared images first (latest ∷ earlier) last owned runs ran (inr m) = cut_runs_spare declared images first earlier runs.0 owned runs.1 ran m
