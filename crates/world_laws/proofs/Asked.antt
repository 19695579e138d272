-- Each action that is claimed, and each poll, has a request.
use Rattle.std.proofs.Common.{◌≡◌, ◌⊎◌, ℕ, Bool, true, false, ◌&&◌, List, [], ◌∷◌, length, Option, Some, None, slice_get, refl, sym, ap, ◌∙◌, subst, inl, inr, arith}
use Rattle.std.proofs.lemmas.Bool.{eq-eqb, eqb-true, or_cases}
use Rattle.std.specs.List.{list_any}
use Rattle.std.specs.Prelude.{if◌then◌else◌, ◌==◌, is_some, nat_le, option_map}
use Rattle.engine_types.specs.declared.Aim.{Aim}
use Rattle.tree_base.specs.Limits.{most_entries}
use Rattle.engine_types.specs.declared.Action.{Action}
use Rattle.engine_types.specs.declared.ActionKind.{ActionKind}
use Rattle.engine_types.specs.declared.ActionKind.TheVariants.{CreateSlot, StartSlot}
use Rattle.engine_types.specs.declared.Declared.{Declared}
use Rattle.engine_types.specs.declared.Entry.{Entry}
use Rattle.engine_types.specs.declared.Listed.{Listed}
use Rattle.engine_types.specs.declared.Need.{Need}
use Rattle.engine_types.specs.declared.Request.{Request}
use Rattle.engine_types.specs.declared.Seen.{Seen}
use Rattle.engine_types.specs.declared.SeenEnd.{SeenEnd}
use Rattle.engine_types.specs.declared.Slot.{Slot}
use Rattle.run_model.specs.Conditions.{asks_for, counts, is_allowed, is_goal_open, is_needed, is_pending, is_watched}
use Rattle.run_model.specs.EngineRules.{Among}
use Rattle.run_model.specs.Journals.{Setup, Watch, Work, holding, is_well, seen_in, standing}
use Rattle.run_model.specs.Legal.{IsLegal, Look, Saw, answer_to, decision, has_fewest_polls, is_other_out, may_poll, next_action, next_poll}
use Rattle.run_model.specs.Journals.{Holding, Nothing, is_ending}
use Rattle.run_model.specs.Observation.{is_up, listing_fault}
use Rattle.run_model.specs.Plans.{Basis, CarriesOut, HasPlan, IsWhole, is_start_of, kept_of, kind_of, slot_at, slot_needs, start_of}
use Rattle.run_model.specs.Requests.{OfAction, OfPoll, Source, action_request, asked, poll_place, poll_request, request_out, slot_id, source_of}
use Rattle.run_model.specs.Numbers.{places}
use Rattle.run_model.proofs.DistinctLists.{from_numbers}
use Rattle.run_model.proofs.KeptLaws.{any_from_list}
use Rattle.run_model.proofs.LegalLaws.{decision_take}
use Rattle.run_model.proofs.PlanLaws.{both}
use Rattle.run_model.proofs.RollLaws.{carries}
use Rattle.run_requests.proofs.Known.{found, request_known, slot_known}
use Rattle.run_requests.proofs.Searches.{find_passes, some_below}
use Rattle.world_laws.proofs.Finished.{basis_of}
use Rattle.world_laws.proofs.Observing.{seen_by, told_by}
use Rattle.world_laws.proofs.OneWorker.{claim_needs, source_for, source_is, well_needs}

-- a number of a list's places is that of an element
from_places : {X : Type 0} (xs : List X) (i : ℕ) → Among (places xs) i → (x : X) × (slice_get xs i ≡ Some x)
from_places xs i m = let r = from_numbers 0 (length xs) i m in some_below xs i (omega (arith, r.1))

-- only a start is found by its test
finds_start : (s : ℕ) (kind : Option ActionKind) → is_start_of s kind ≡ true → kind ≡ Some (StartSlot s)
finds_start s (Some (StartSlot t)) e = let same : t ≡ s = eqb-true t s e in ap (λ (u : ℕ). Some (StartSlot u)) same
finds_start s _ e = absurd (cc e)

-- only starts wait for conditions
starts_wait : (declared : Declared) (kind : Option ActionKind) (need : Need) → Among (slot_needs declared kind) need → (s : ℕ) × (kind ≡ Some (StartSlot s))
starts_wait declared (Some (StartSlot s)) need m = (s, refl)
starts_wait declared _ need m = absurd m

-- what was seen is what the run is of
pub begun_seen : (aim : Aim) (setup : Setup) (past : List Entry) → IsLegal aim setup past → is_some (seen_in past) ≡ true → seen_in past ≡ Some setup.seen
begun_seen aim setup [] legal e = absurd (cc e)
begun_seen aim setup (Entry.Seen observation ∷ past) legal e = at observation.end refl legal.1.2 e
  where
    at : (end : SeenEnd) → observation.end ≡ end → Saw observation.end setup.seen → is_some (seen_in (Entry.Seen observation ∷ past)) ≡ true
        → seen_in (Entry.Seen observation ∷ past) ≡ Some setup.seen
    at (SeenEnd.Good seen) h saw f = let same : seen ≡ setup.seen = rw h at saw in rw h (ap (λ (s : Seen). Some s) same)
    at (SeenEnd.Bad fault) h saw f = let bad : false ≡ true = rw h at f in absurd (cc bad)
begun_seen aim setup (Entry.Claim w a ∷ past) legal e = begun_seen aim setup past legal.0 e
begun_seen aim setup (Entry.Poll w s ∷ past) legal e = begun_seen aim setup past legal.0 e
begun_seen aim setup (Entry.Ended w outcome ∷ past) legal e = begun_seen aim setup past legal.0 e
begun_seen aim setup (Entry.Idle w ∷ past) legal e = begun_seen aim setup past legal.0 e
begun_seen aim setup (Entry.Leave w ∷ past) legal e = begun_seen aim setup past legal.0 e
begun_seen aim setup (Entry.Stop w ∷ past) legal e = begun_seen aim setup past legal.0 e
begun_seen aim setup (Entry.Late w why ∷ past) legal e = begun_seen aim setup past legal.0 e
begun_seen aim setup (Entry.Short w ∷ past) legal e = begun_seen aim setup past legal.0 e

begun_sound : (aim : Aim) (setup : Setup) (past : List Entry) → IsLegal aim setup past → is_some (seen_in past) ≡ true → listing_fault setup.declared aim.purpose setup.seen ≡ None
begun_sound aim setup past legal e = (told_by setup.declared aim setup.seen (seen_by aim setup past setup.seen legal (begun_seen aim setup past legal e))).sound

-- a worker that is given a poll is given the next one
answers_look : (full ending : Bool) (action slot : Option ℕ) (out : Bool) (s : ℕ) → answer_to full ending action slot out ≡ Look s → slot ≡ Some s
answers_look true ending action slot out s e = absurd (cc e)
answers_look false true action slot out s e = absurd (cc e)
answers_look false false (Some b) slot out s e = absurd (cc e)
answers_look false false None (Some t) out s e = cc e
answers_look false false None None true s e = absurd (cc e)
answers_look false false None None false s e = absurd (cc e)

decision_look : (setup : Setup) (past : List Entry) (w s : ℕ) → decision setup past w ≡ Look s → next_poll setup past ≡ Some s
decision_look setup past w s e = answers_look (nat_le most_entries (length past)) (is_ending past) (next_action setup past) (next_poll setup past) (is_other_out setup past w) s e

module _ (aim : Aim) (setup : Setup) (plan : HasPlan (basis_of aim setup) setup.actions) (whole : IsWhole setup.declared) where
  abbrev basis : Basis
  basis = basis_of aim setup

  is_plan : CarriesOut basis setup.actions
  is_plan = carries basis setup.actions plan

  -- an action that is claimed has a request
  claim_asks : (past : List Entry) (w a : ℕ) → IsLegal aim setup (Entry.Claim w a ∷ past) → (request : Request) × (action_request setup past a ≡ Some request)
  claim_asks past w a legal =
      let p = find_passes (is_allowed setup past) (places setup.actions) a (decision_take setup past w a legal.1.1) in
      let action = from_places setup.actions a p.1 in
      let k : kind_of setup.actions a ≡ Some action.0.kind = ap (option_map (λ (x : Action). x.kind)) action.1 in
      let r = request_known aim setup is_plan whole past (begun_sound aim setup past legal.0 legal.1.0.begun) action.0.kind (is_plan.wanted a action.0.kind k)
      (λ other n b j. claim_needs aim setup past w a b legal (is_plan.needs a b action.0.kind other k j n)) in
      (r.0, rw k r.1)

  module _ (one : setup.limits.workers ≡ 1) (waits : (is_up aim.purpose ≡ true) ⊎ (setup.limits.wait ≡ false)) where
    -- a slot that is watched is of a run that brings a project up
    watched_up : (past : List Entry) (s : ℕ) → is_watched setup past s ≡ true → is_up aim.purpose ≡ true
    watched_up past s e = at waits
      where
        needed : is_needed setup past s ≡ true → is_up aim.purpose ≡ true
        needed h =
            let r = any_from_list (λ (a : ℕ). is_pending setup past a && list_any (asks_for setup past s) (slot_needs setup.declared (kind_of setup.actions a))) (places setup.actions) h in
            let n = any_from_list (asks_for setup past s) (slot_needs setup.declared (kind_of setup.actions r.0))
            (both (is_pending setup past r.0) (list_any (asks_for setup past s) (slot_needs setup.declared (kind_of setup.actions r.0))) r.2).1 in
            let t = starts_wait setup.declared (kind_of setup.actions r.0) n.0 n.1 in
            (both (is_up aim.purpose) _ (is_plan.wanted r.0 (StartSlot t.0) t.1)).0

        aimless : setup.limits.wait ≡ false → is_goal_open setup past s ≡ true → ⊥
        aimless h g = let bad : false ≡ true = rw h at g in cc bad

        by : setup.limits.wait ≡ false → (is_needed setup past s ≡ true) ⊎ (is_goal_open setup past s ≡ true) → is_up aim.purpose ≡ true
        by h (inl n) = needed n
        by h (inr g) = absurd (aimless h g)

        at : (is_up aim.purpose ≡ true) ⊎ (setup.limits.wait ≡ false) → is_up aim.purpose ≡ true
        at (inl up) = up
        at (inr h) = by h (or_cases (is_needed setup past s) (is_goal_open setup past s) (both (counts setup past s) _ e).1)

    -- a poll has a request
    poll_asks : (past : List Entry) (w s : ℕ) → IsLegal aim setup (Entry.Poll w s ∷ past) → (request : Request) × (poll_request setup past s ≡ Some request)
    poll_asks past w s legal = (Request.Inspect id.0, ap (option_map (λ (i : List ℕ). Request.Inspect i)) id.1)
      where
        passes : (may_poll setup past s && has_fewest_polls setup past s ≡ true) × Among (places setup.declared.slots) s
        passes = find_passes (λ (t : ℕ). may_poll setup past t && has_fewest_polls setup past t) (places setup.declared.slots) s (decision_look setup past w s legal.1.1)

        watched : is_watched setup past s ≡ true
        watched = (both (is_watched setup past s) _ (both (may_poll setup past s) _ passes.0).0).0

        counted : counts setup past s ≡ true
        counted = (both (counts setup past s) _ watched).0

        up : is_up aim.purpose ≡ true
        up = watched_up past s watched

        slot : (x : Slot) × (slot_at setup.declared s ≡ Some x)
        slot = from_places setup.declared.slots s passes.1

        sound : listing_fault setup.declared aim.purpose setup.seen ≡ None
        sound = begun_sound aim setup past legal.0 legal.1.0.begun

        -- a slot that isn't started keeps its container
        unstarted : start_of setup.actions s ≡ None → (o : Option Listed) → kept_of setup.declared setup.seen slot.0 ≡ o → (i : List ℕ) × (slot_id setup past s ≡ Some i)
        unstarted none (Some row) h = (row.id, rw (slot.1, h) refl)
        unstarted none None h =
            let f = found aim setup is_plan whole (is_start_of s) (StartSlot s) (eq-eqb s s refl) (rw (up, slot.1, h) refl) in
            let bad : Some f.0 ≡ None = sym f.1 ∙ none in absurd (cc bad)

        at : (o : Option ℕ) → start_of setup.actions s ≡ o → (i : List ℕ) × (slot_id setup past s ≡ Some i)
        at None h = unstarted h (kept_of setup.declared setup.seen slot.0) refl
        at (Some d) h =
            let p = find_passes (λ (b : ℕ). is_start_of s (kind_of setup.actions b)) (places setup.actions) d h in
            let k = finds_start s (kind_of setup.actions d) p.0 in
            let well : is_well (standing setup past d) ≡ true = rw h at counted in
            slot_known aim setup is_plan whole past sound s slot.0 slot.1 up
            (λ b j. well_needs aim setup one past d b legal.0 well (is_plan.needs d b (StartSlot s) (CreateSlot s) k j (eq-eqb s s refl)))

        id : (i : List ℕ) × (slot_id setup past s ≡ Some i)
        id = at (start_of setup.actions s) refl

    work_asked : (past : List Entry) (w a : ℕ) → IsLegal aim setup past → holding past w ≡ Work a → (request : Request) × (asked setup past (OfAction a) ≡ Some request)
    work_asked [] w a legal e = absurd (cc e)
    work_asked (Entry.Claim v b ∷ past) w a legal e = at (v == w) e (work_asked past w a legal.0)
      where
        ask : b ≡ a → (request : Request) × (action_request setup past a ≡ Some request)
        ask same = subst (λ (x : ℕ). (request : Request) × (action_request setup past x ≡ Some request)) same (claim_asks past v b legal)

        on : (t : Bool) → (b == a) ≡ t → (request : Request) × (asked setup past (OfAction a) ≡ Some request)
            → (request : Request) × ((if t then action_request setup past a else asked setup past (OfAction a)) ≡ Some request)
        on true h rest = ask (eqb-true b a h)
        on false h rest = rest

        at : (t : Bool) → (if t then Work b else holding past w) ≡ Work a → (holding past w ≡ Work a → (request : Request) × (asked setup past (OfAction a) ≡ Some request))
            → (request : Request) × ((if b == a then action_request setup past a else asked setup past (OfAction a)) ≡ Some request)
        at true f rest = let same : b ≡ a = cc f in let r = ask same in (r.0, rw (eq-eqb b a same) r.1)
        at false f rest = on (b == a) refl (rest f)
    work_asked (Entry.Poll v s ∷ past) w a legal e = at (v == w) e (work_asked past w a legal.0)
      where
        at : (t : Bool) → (if t then Watch s else holding past w) ≡ Work a → (holding past w ≡ Work a → (request : Request) × (asked setup past (OfAction a) ≡ Some request))
            → (request : Request) × (asked setup past (OfAction a) ≡ Some request)
        at true f rest = absurd (cc f)
        at false f rest = rest f
    work_asked (Entry.Ended v outcome ∷ past) w a legal e = at (v == w) e (work_asked past w a legal.0)
      where
        at : (t : Bool) → (if t then Nothing else holding past w) ≡ Work a → (holding past w ≡ Work a → (request : Request) × (asked setup past (OfAction a) ≡ Some request))
            → (request : Request) × (asked setup past (OfAction a) ≡ Some request)
        at true f rest = absurd (cc f)
        at false f rest = rest f
    work_asked (Entry.Seen observation ∷ past) w a legal e = work_asked past w a legal.0 e
    work_asked (Entry.Idle v ∷ past) w a legal e = work_asked past w a legal.0 e
    work_asked (Entry.Leave v ∷ past) w a legal e = work_asked past w a legal.0 e
    work_asked (Entry.Stop v ∷ past) w a legal e = work_asked past w a legal.0 e
    work_asked (Entry.Late v why ∷ past) w a legal e = work_asked past w a legal.0 e
    work_asked (Entry.Short v ∷ past) w a legal e = work_asked past w a legal.0 e

    watch_asked : (past : List Entry) (w s : ℕ) → IsLegal aim setup past → holding past w ≡ Watch s → (request : Request) × (asked setup past (OfPoll (poll_place past w)) ≡ Some request)
    watch_asked [] w s legal e = absurd (cc e)
    watch_asked (Entry.Claim v b ∷ past) w s legal e = at (v == w) e (watch_asked past w s legal.0)
      where
        at : (t : Bool) → (if t then Work b else holding past w) ≡ Watch s → (holding past w ≡ Watch s → (request : Request) × (asked setup past (OfPoll (poll_place past w)) ≡ Some request))
            → (request : Request) × (asked setup past (OfPoll (poll_place past w)) ≡ Some request)
        at true f rest = absurd (cc f)
        at false f rest = rest f
    watch_asked (Entry.Poll v t ∷ past) w s legal e = at (v == w) e (watch_asked past w s legal.0)
      where
        on : (n : ℕ) (b : Bool) → (request : Request) × (asked setup past (OfPoll n) ≡ Some request)
            → (request : Request) × ((if b then poll_request setup past t else asked setup past (OfPoll n)) ≡ Some request)
        on n true rest = poll_asks past v t legal
        on n false rest = rest

        at : (b : Bool) → (if b then Watch t else holding past w) ≡ Watch s → (holding past w ≡ Watch s → (request : Request) × (asked setup past (OfPoll (poll_place past w)) ≡ Some request))
            → (request : Request) × (asked setup (Entry.Poll v t ∷ past) (OfPoll (if b then length past else poll_place past w)) ≡ Some request)
        at true f rest = let r = poll_asks past v t legal in (r.0, rw (eq-eqb (length past) (length past) refl) r.1)
        at false f rest = on (poll_place past w) (length past == poll_place past w) (rest f)
    watch_asked (Entry.Ended v outcome ∷ past) w s legal e = at (v == w) e (watch_asked past w s legal.0)
      where
        at : (t : Bool) → (if t then Nothing else holding past w) ≡ Watch s → (holding past w ≡ Watch s → (request : Request) × (asked setup past (OfPoll (poll_place past w)) ≡ Some request))
            → (request : Request) × (asked setup past (OfPoll (poll_place past w)) ≡ Some request)
        at true f rest = absurd (cc f)
        at false f rest = rest f
    watch_asked (Entry.Seen observation ∷ past) w s legal e = watch_asked past w s legal.0 e
    watch_asked (Entry.Idle v ∷ past) w s legal e = watch_asked past w s legal.0 e
    watch_asked (Entry.Leave v ∷ past) w s legal e = watch_asked past w s legal.0 e
    watch_asked (Entry.Stop v ∷ past) w s legal e = watch_asked past w s legal.0 e
    watch_asked (Entry.Late v why ∷ past) w s legal e = watch_asked past w s legal.0 e
    watch_asked (Entry.Short v ∷ past) w s legal e = watch_asked past w s legal.0 e

    some_asked : (past : List Entry) (w : ℕ) (held : Holding) (source : Source) → IsLegal aim setup past → holding past w ≡ held → source_for past w held ≡ Some source
        → (request : Request) × (asked setup past source ≡ Some request)
    some_asked past w Nothing source legal e s = absurd (cc s)
    some_asked past w (Work a) source legal e s =
        let same : OfAction a ≡ source = cc s in subst (λ (x : Source). (request : Request) × (asked setup past x ≡ Some request)) same (work_asked past w a legal e)
    some_asked past w (Watch t) source legal e s =
        let same : OfPoll (poll_place past w) ≡ source = cc s in subst (λ (x : Source). (request : Request) × (asked setup past x ≡ Some request)) same (watch_asked past w t legal e)

    out_is : (past : List Entry) (w : ℕ) (source : Source) (request : Request) → source_of past w ≡ Some source → asked setup past source ≡ Some request → request_out setup past w ≡ request
    out_is past w source request s a = rw (s, a) refl

    -- what a permit's exchange was asked with is the request that is out
    pub out_asked : (past : List Entry) (w : ℕ) (source : Source) → IsLegal aim setup past → source_of past w ≡ Some source → asked setup past source ≡ Some (request_out setup past w)
    out_asked past w source legal s =
        let r = some_asked past w (holding past w) source legal refl (sym (source_is past w (holding past w) refl) ∙ s) in
        let out = out_is past w source r.0 s r.1 in
        r.1 ∙ ap (λ (q : Request). Some q) (sym out)
