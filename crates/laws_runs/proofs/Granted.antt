-- Whatever is granted has a request.
use Rattle.std.proofs.Common.{◌≡◌, ◌⊎◌, ℕ, Bool, true, false, ◌&&◌, ◌||◌, List, length, Option, Some, None, slice_get, refl, sym, ap, ◌∙◌, inl, inr, arith}
use Rattle.std.proofs.lemmas.Bool.{eq-eqb, eqb-true, or_cases}
use Rattle.std.specs.List.{list_all, list_any}
use Rattle.std.specs.Prelude.{is_some, nat_le, option_map}
use Rattle.engine_types.specs.declared.Aim.{Aim}
use Rattle.tree_base.specs.Limits.{most_entries}
use Rattle.engine_types.specs.declared.Action.{Action}
use Rattle.engine_types.specs.declared.ActionKind.{ActionKind}
use Rattle.engine_types.specs.declared.ActionKind.TheVariants.{CreateSlot, StartSlot}
use Rattle.engine_types.specs.declared.Declared.{Declared}
use Rattle.engine_types.specs.declared.Entry.{Entry}
use Rattle.engine_types.specs.declared.Listed.{Listed}
use Rattle.engine_types.specs.declared.Need.{Need}
use Rattle.engine_types.specs.declared.Request.{Request}
use Rattle.engine_types.specs.declared.Slot.{Slot}
use Rattle.run_model.specs.Conditions.{asks_for, counts, is_allowed, is_goal_open, is_needed, is_pending, is_watched, lets}
use Rattle.run_model.specs.EngineRules.{Among}
use Rattle.run_model.specs.Journals.{Setup, is_ending, is_free, is_well, seen_in, standing}
use Rattle.run_model.specs.Legal.{IsLegal, Look, Take, answer_to, decision, has_fewest_polls, is_other_out, may_poll, next_action, next_poll}
use Rattle.run_model.specs.Numbers.{places}
use Rattle.run_model.specs.Observation.{is_up, listing_fault}
use Rattle.run_model.specs.Plans.{Basis, CarriesOut, is_start_of, kept_of, kind_of, needs_of, slot_at, slot_needs, start_of}
use Rattle.run_model.specs.Requests.{action_request, poll_request, slot_id}
use Rattle.run_model.proofs.DistinctLists.{from_numbers}
use Rattle.run_model.proofs.KeptLaws.{any_from_list}
use Rattle.run_model.proofs.LegalLaws.{decision_take}
use Rattle.run_model.proofs.PlanLaws.{both}
use Rattle.run_model.proofs.RollLaws.{carries}
use Rattle.run_requests.proofs.Known.{basis_for, found, request_known, slot_known}
use Rattle.run_requests.proofs.Searches.{find_passes, some_below}
use Rattle.world_laws.proofs.Asked.{begun_seen}
use Rattle.world_laws.proofs.Looks.{all_among}
use Rattle.world_laws.proofs.Observing.{seen_by, told_by}
use Rattle.laws_runs.specs.GrantLaws.{GrantsHaveRequests, IsPlannedFor}
use Rattle.laws_runs.proofs.Needs.{well_needs}

-- a number of a list's places is that of an element
from_places : {X : Type 0} (xs : List X) (i : ℕ) → Among (places xs) i → (x : X) × (slice_get xs i ≡ Some x)
from_places xs i m = let r = from_numbers 0 (length xs) i m in some_below xs i (omega (arith, r.1))

-- only a start is found by its test
finds_start : (s : ℕ) (kind : Option ActionKind) → is_start_of s kind ≡ true → kind ≡ Some (StartSlot s)
finds_start s (Some (StartSlot t)) e = let same : t ≡ s = eqb-true t s e in ap (λ (u : ℕ). Some (StartSlot u)) same
finds_start s _ e = absurd (cc e)

-- only starts wait for conditions
starts_wait : (declared : Declared) (kind : Option ActionKind) (need : Need) → Among (slot_needs declared kind) need → (s : ℕ) × (kind ≡ Some (StartSlot s))
starts_wait declared (Some (StartSlot s)) need m = (s, refl)
starts_wait declared _ need m = absurd m

-- an ask is answered with the slot that is polled next
answers_look : (full ending : Bool) (action slot : Option ℕ) (out : Bool) (s : ℕ) → answer_to full ending action slot out ≡ Look s → slot ≡ Some s
answers_look true ending action slot out s e = absurd (cc e)
answers_look false true action slot out s e = absurd (cc e)
answers_look false false (Some b) slot out s e = absurd (cc e)
answers_look false false None (Some t) out s e = cc e
answers_look false false None None true s e = absurd (cc e)
answers_look false false None None false s e = absurd (cc e)

decision_look : (setup : Setup) (past : List Entry) (w s : ℕ) → decision setup past w ≡ Look s → next_poll setup past ≡ Some s
decision_look setup past w s e = answers_look (nat_le most_entries (length past)) (is_ending past) (next_action setup past) (next_poll setup past) (is_other_out setup past w) s e

is_there : {X : Type 0} (o : Option X) (x : X) → o ≡ Some x → is_some o ≡ true
is_there o x e = ap is_some e

module _ (aim : Aim) (setup : Setup) (run : IsPlannedFor aim setup) (past : List Entry) (legal : IsLegal aim setup past) (begun : is_some (seen_in past) ≡ true) where
  abbrev basis : Basis
  basis = basis_for aim setup

  is_plan : CarriesOut basis setup.actions
  is_plan = carries basis setup.actions run.has_plan

  sound : listing_fault setup.declared aim.purpose setup.seen ≡ None
  sound = (told_by setup.declared aim setup.seen (seen_by aim setup past setup.seen legal (begun_seen aim setup past legal begun))).sound

  -- an action that is allowed has a request
  action_asks : (a : ℕ) → Among (places setup.actions) a → is_allowed setup past a ≡ true → is_some (action_request setup past a) ≡ true
  action_asks a m allowed =
      let action = from_places setup.actions a m in
      let k : kind_of setup.actions a ≡ Some action.0.kind = ap (option_map (λ (x : Action). x.kind)) action.1 in
      let r = request_known aim setup is_plan run.whole past sound action.0.kind (is_plan.wanted a action.0.kind k)
      (λ other n b j. all_among (λ (c : ℕ). is_well (standing setup past c)) (needs_of setup.actions a) b well (is_plan.needs a b action.0.kind other k j n)) in
      is_there (action_request setup past a) r.0 (rw k r.1)
    where
      well : list_all (λ (c : ℕ). is_well (standing setup past c)) (needs_of setup.actions a) ≡ true
      well = (both (is_free (standing setup past a)) (list_all (λ (c : ℕ). is_well (standing setup past c)) (needs_of setup.actions a))
          (both (is_free (standing setup past a) && list_all (λ (c : ℕ). is_well (standing setup past c)) (needs_of setup.actions a)) (list_all (lets setup past) (slot_needs setup.declared (kind_of setup.actions a))) allowed).0).1

  pub taken : (w a : ℕ) → decision setup past w ≡ Take a → is_some (action_request setup past a) ≡ true
  taken w a e = let p = find_passes (is_allowed setup past) (places setup.actions) a (decision_take setup past w a e) in action_asks a p.1 p.0

  -- a slot that is watched is of a run that brings a project up
  watched_up : (s : ℕ) → is_watched setup past s ≡ true → is_up aim.purpose ≡ true
  watched_up s e = by (or_cases (is_needed setup past s) (is_goal_open setup past s) (both (counts setup past s) (is_needed setup past s || is_goal_open setup past s) e).1)
    where
      needed : is_needed setup past s ≡ true → is_up aim.purpose ≡ true
      needed h =
          let r = any_from_list (λ (a : ℕ). is_pending setup past a && list_any (asks_for setup past s) (slot_needs setup.declared (kind_of setup.actions a))) (places setup.actions) h in
          let n = any_from_list (asks_for setup past s) (slot_needs setup.declared (kind_of setup.actions r.0))
          (both (is_pending setup past r.0) (list_any (asks_for setup past s) (slot_needs setup.declared (kind_of setup.actions r.0))) r.2).1 in
          let t = starts_wait setup.declared (kind_of setup.actions r.0) n.0 n.1 in
          (both (is_up aim.purpose) _ (is_plan.wanted r.0 (StartSlot t.0) t.1)).0

      aimed : (t : Bool) → setup.limits.wait ≡ t → is_goal_open setup past s ≡ true → is_up aim.purpose ≡ true
      aimed true h g = run.waits_up h
      aimed false h g = let bad : false ≡ true = rw h at g in absurd (cc bad)

      by : (is_needed setup past s ≡ true) ⊎ (is_goal_open setup past s ≡ true) → is_up aim.purpose ≡ true
      by (inl n) = needed n
      by (inr g) = aimed setup.limits.wait refl g

  -- a slot that is watched has a container
  watched_known : (s : ℕ) → Among (places setup.declared.slots) s → is_watched setup past s ≡ true → (i : List ℕ) × (slot_id setup past s ≡ Some i)
  watched_known s m watched = at (start_of setup.actions s) refl
    where
      counted : counts setup past s ≡ true
      counted = (both (counts setup past s) (is_needed setup past s || is_goal_open setup past s) watched).0

      up : is_up aim.purpose ≡ true
      up = watched_up s watched

      slot : (x : Slot) × (slot_at setup.declared s ≡ Some x)
      slot = from_places setup.declared.slots s m

      -- a slot that isn't started keeps its container
      unstarted : start_of setup.actions s ≡ None → (o : Option Listed) → kept_of setup.declared setup.seen slot.0 ≡ o → (i : List ℕ) × (slot_id setup past s ≡ Some i)
      unstarted none (Some row) h = (row.id, rw (slot.1, h) refl)
      unstarted none None h =
          let f = found aim setup is_plan run.whole (is_start_of s) (StartSlot s) (eq-eqb s s refl) (rw (up, slot.1, h) refl) in
          let bad : Some f.0 ≡ None = sym f.1 ∙ none in absurd (cc bad)

      at : (o : Option ℕ) → start_of setup.actions s ≡ o → (i : List ℕ) × (slot_id setup past s ≡ Some i)
      at None h = unstarted h (kept_of setup.declared setup.seen slot.0) refl
      at (Some d) h =
          let p = find_passes (λ (b : ℕ). is_start_of s (kind_of setup.actions b)) (places setup.actions) d h in
          let k = finds_start s (kind_of setup.actions d) p.0 in
          let well : is_well (standing setup past d) ≡ true = rw h at counted in
          slot_known aim setup is_plan run.whole past sound s slot.0 slot.1 up
          (λ b j. well_needs aim setup past d b legal well (is_plan.needs d b (StartSlot s) (CreateSlot s) k j (eq-eqb s s refl)))

  pub looked : (w s : ℕ) → decision setup past w ≡ Look s → is_some (poll_request setup past s) ≡ true
  looked w s e =
      let p = find_passes (λ (t : ℕ). may_poll setup past t && has_fewest_polls setup past t) (places setup.declared.slots) s (decision_look setup past w s e) in
      let id = watched_known s p.1 (both (is_watched setup past s) _ (both (may_poll setup past s) (has_fewest_polls setup past s) p.0).0).0 in
      ap (λ (o : Option (List ℕ)). is_some (option_map (λ (i : List ℕ). Request.Inspect i) o)) id.1

pub grants_ask : GrantsHaveRequests
grants_ask = record {
  actions = λ aim setup past w a run legal begun e. taken aim setup run past legal begun w a e;
  polls = λ aim setup past w s run legal begun e. looked aim setup run past legal begun w s e;
}
