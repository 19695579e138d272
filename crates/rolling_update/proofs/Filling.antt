-- Where nothing but the run changes the Engine, each slot that was seen live and isn't lacking has a live container there.
use Rattle.std.proofs.Common.{◌≡◌, ◌⊎◌, ℕ, ◌≤◌, Bool, true, false, cond, not, ◌&&◌, ◌||◌, List, [], ◌∷◌, ◌++◌, length, reverse, Option, Some, None, refl, sym, ap, ◌∙◌, subst, inl, inr, arith, ◌==◌}
use Rattle.std.specs.Prelude.{filter, find, if◌then◌else◌, is_some}
use Rattle.std.specs.List.{list_all}
use Rattle.std.specs.Option.{option_map_or}
use Rattle.std.specs.Str.{bytes_eq}
use Rattle.std.proofs.lemmas.Bool.{and_cases, and_from, and_parts, both_ways, eq-eqb, eqb-true, not-false, not-true, or_parts}
use Rattle.std.proofs.lemmas.Slice.Eq.{bytes_eq-Decides}
use Rattle.engine_types.specs.declared.Aim.{Aim}
use Rattle.tree_base.specs.ByteOrder.{first_of_each}
use Rattle.tree_base.specs.declared.Var.{Var}
use Rattle.engine_types.specs.declared.ActionKind.{ActionKind}
use Rattle.engine_types.specs.declared.ActionKind.TheVariants.{RemoveContainer, StartSlot, StopContainer, StopKept}
use Rattle.engine_types.specs.declared.ContainerRow.{ContainerRow}
use Rattle.engine_types.specs.declared.Declared.{Declared}
use Rattle.engine_types.specs.declared.Engine.{Engine}
use Rattle.engine_types.specs.declared.Entry.{Entry}
use Rattle.engine_types.specs.declared.Exchange.{Exchange}
use Rattle.engine_types.specs.declared.Listed.{Listed}
use Rattle.engine_types.specs.declared.Observed.{Observed}
use Rattle.engine_types.specs.declared.Reply.{Reply}
use Rattle.engine_types.specs.declared.Request.{Request}
use Rattle.engine_types.specs.declared.Slot.{Slot}
use Rattle.run_model.specs.EngineRules.{Among, Answers, container_at, is_live}
use Rattle.run_model.specs.Journals.{Setup, is_good, seen_in}
use Rattle.run_model.specs.Labels.{is_of_slot}
use Rattle.run_model.specs.Legal.{IsLegal}
use Rattle.run_model.specs.Numbers.{places}
use Rattle.run_model.specs.Observation.{is_up}
use Rattle.run_model.specs.Plans.{HasPlan, HasSmallNumbers, IsWhole, is_kept, is_needed_by, is_start_of, is_wanted, kind_of, slot_at, start_of}
use Rattle.run_model.specs.Requests.{OfAction, OfPoll, OfSeen, request_of, slot_id}
use Rattle.run_model.specs.Runs.{IsWorldOfRun, Task, run_setup}
use Rattle.run_model.specs.Told.{IsTold, answered, is_look}
use Rattle.run_model.specs.Worlds.{Changed, Did, Effect, Move, Took, World, effect_of, entries_of, seen_effects}
use Rattle.run_model.proofs.DistinctLists.{among_filter, from_filter, from_place, same_place}
use Rattle.run_model.proofs.KeptLaws.{any_of_list}
use Rattle.run_model.proofs.LegalLaws.{found_passes}
use Rattle.run_model.proofs.PlanLaws.{some_from}
use Rattle.run_model.proofs.RollLaws.{has_plan}
use Rattle.world_laws.specs.Exactly.{found_containers}
use Rattle.world_laws.specs.OwnSpecs.{HasOwnSpecs}
use Rattle.world_laws.proofs.ActionRequests.{map_from, of_kind}
use Rattle.world_laws.proofs.Along.{IsEffect, IsKept, holds_along}
use Rattle.world_laws.proofs.Asked.{begun_seen}
use Rattle.world_laws.proofs.Claimed.{is_asked, tail_of}
use Rattle.world_laws.proofs.Effects.{each_has_effect, effect_kept, effect_new}
use Rattle.world_laws.proofs.Finished.{IsRunning, basis_of}
use Rattle.world_laws.proofs.Held.{Holds, effects}
use Rattle.world_laws.proofs.Holding.{holds}
use Rattle.world_laws.proofs.Kept.{IsSlotId, OfKept, OfMade, kept_at, kept_unremoved, told_slot_id}
use Rattle.world_laws.proofs.Looks.{AreLooks, all_among, among_reverse, as_exchanges, effects_are, from_reverse}
use Rattle.world_laws.proofs.Observing.{IsSeenWell, good_end, told_by}
use Rattle.world_laws.proofs.Planning.{leaves, seen_ids}
use Rattle.world_laws.proofs.ResourceMoves.{plan_of}
use Rattle.rolling_update.specs.Filled.{CutRunsEmptyAtMost, EmptiesAtMost, FilledUnlessLacking, IsUndisturbed, empty_slots, has_live, is_empty}
use Rattle.rolling_update.specs.Moments.{is_stop_of, lacking, lacks, was_emptied, was_live, was_started, was_stopped}
use Rattle.rolling_update.proofs.Claims.{IsClaimed, legal_tail, needed_well, still_well}
use Rattle.rolling_update.proofs.Counts.{cut_runs_roll_at_most, legal_before, legal_of, rolls_at_most, starts_it}
use Rattle.rolling_update.proofs.Living.{IsLiveAt, listed_lives, start_lives, stays_live}
use Rattle.rolling_update.proofs.Slots.{agrees_of, kept_is, of_one, slots_differ}
use Rattle.rolling_update.proofs.Stops.{Ends, same_row, stop_is, stops}

-- an action that has had an effect was claimed
effect_claimed : (setup : Setup) (first last : Engine) (moves : List Move) (a : ℕ) (reply : Reply) → World setup first moves last → effect_of moves (OfAction a) ≡ Some reply
    → IsClaimed (entries_of moves) a
effect_claimed setup first last [] a reply world e = absurd (cc e)
effect_claimed setup first last (Did entry ∷ moves) a reply world e =
    let r = effect_claimed setup first world.0 moves a reply world.1 e in record { worker = r.worker; tail = r.tail; claimed = inr r.claimed }
effect_claimed setup first last (Changed ∷ moves) a reply world e = effect_claimed setup first world.0 moves a reply world.1 e
effect_claimed setup first last (Took (OfSeen i) request other ∷ moves) a reply world e = effect_claimed setup first world.0 moves a reply world.1 e
effect_claimed setup first last (Took (OfPoll n) request other ∷ moves) a reply world e = effect_claimed setup first world.0 moves a reply world.1 e
effect_claimed setup first last (Took (OfAction b) request other ∷ moves) a reply world e = at (b == a) refl e (effect_claimed setup first world.0 moves a reply world.1)
  where
    at : (t : Bool) → (b == a) ≡ t → (if t then Some other else effect_of moves (OfAction a)) ≡ Some reply
        → (effect_of moves (OfAction a) ≡ Some reply → IsClaimed (entries_of moves) a) → IsClaimed (entries_of moves) a
    at true h f rest =
        let q = is_asked setup (entries_of moves) b request world.2.0.may_act.0 in
        subst (IsClaimed (entries_of moves)) (eqb-true b a h) (record { worker = q.worker; tail = q.tail; claimed = q.claimed })
    at false h f rest = rest f

-- the first rows of each id are rows
from_firsts : {X : Type 0} (key : X → List ℕ) (xs : List X) (x : X) → Among (first_of_each key xs) x → Among xs x
from_firsts key [] x m = m
from_firsts key (y ∷ ys) x (inl e) = inl e
from_firsts {X} key (y ∷ ys) x (inr m) = inr (from_firsts key ys x (from_filter (λ (z : X). not (bytes_eq (key y) (key z))) (first_of_each key ys) x m).1)

-- what a look-up by id finds is one of them
found_first : (id : List ℕ) (xs : List ContainerRow) (row : ContainerRow) → find (λ (r : ContainerRow). bytes_eq r.id id) xs ≡ Some row
    → Among (first_of_each (λ (r : ContainerRow). r.id) xs) row × (row.id ≡ id)
found_first id [] row e = absurd (cc e)
found_first id (y ∷ ys) row e = at (bytes_eq y.id id) refl (found_first id ys row) e
  where
    firsts : List ContainerRow
    firsts = first_of_each (λ (r : ContainerRow). r.id) ys

    at : (t : Bool) → bytes_eq y.id id ≡ t → (find (λ (r : ContainerRow). bytes_eq r.id id) ys ≡ Some row → Among firsts row × (row.id ≡ id))
        → cond t (Some y) (find (λ (r : ContainerRow). bytes_eq r.id id) ys) ≡ Some row → Among (first_of_each (λ (r : ContainerRow). r.id) (y ∷ ys)) row × (row.id ≡ id)
    at true h rest f = let same : y ≡ row = cc f in (inl (sym same), ap (λ (r : ContainerRow). r.id) (sym same) ∙ (bytes_eq-Decides y.id id).0 h)
    at false h rest f =
        let r = rest f in
        (inr (among_filter (λ (z : ContainerRow). not (bytes_eq y.id z.id)) firsts row (ap (λ (i : List ℕ). not (bytes_eq y.id i)) r.1 ∙ ap not h) r.0), r.1)

-- where not all pass, one doesn't
one_fails : {X : Type 0} (p : X → Bool) (xs : List X) → list_all p xs ≡ false → (x : X) × Among xs x × (p x ≡ false)
one_fails p [] e = absurd (cc e)
one_fails {X} p (x ∷ xs) e = at (p x) refl e (one_fails p xs)
  where
    at : (t : Bool) → p x ≡ t → (t && list_all p xs) ≡ false → (list_all p xs ≡ false → (y : X) × Among xs y × (p y ≡ false)) → (y : X) × Among (x ∷ xs) y × (p y ≡ false)
    at false h f rest = (x, inl refl, h)
    at true h f rest = let r = rest f in (r.0, inr r.1, r.2)

-- a slot's container is live, by its id
pub record IsStartedAt (setup : Setup) (effect : ℕ → Option Reply) (s : ℕ) (slot : Slot) (engine : Engine) : Type 0 where
  pub id : List ℕ
  pub its : IsSlotId setup effect s id
  pub labels : List Var
  pub own : is_of_slot setup.declared.project slot labels ≡ true
  pub lives : IsLiveAt engine id labels

-- the containers that were seen live and haven't been stopped are live, and so are those of the slots that were started
pub record Fills (setup : Setup) (stopped : List ℕ → Bool) (effect : ℕ → Option Reply) (engine : Engine) : Type 0 where
  pub seen : (row : Listed) → Among setup.seen.containers row → is_live row.state ≡ true → stopped row.id ≡ false → IsLiveAt engine row.id row.labels
  pub started : (a s : ℕ) (slot : Slot) (reply : Reply) → kind_of setup.actions a ≡ Some (StartSlot s) → slot_at setup.declared s ≡ Some slot
      → effect a ≡ Some reply → is_good (StartSlot s) reply ≡ true → IsStartedAt setup effect s slot engine

-- at the end of the observation
module _ (aim : Aim) (setup : Setup) (first engine : Engine) (observation : Observed) (moves : List Move)
    (run : IsRunning aim setup first (Did (Entry.Seen observation) ∷ moves) engine) (empty : entries_of moves ≡ []) where
  abbrev well : IsSeenWell setup.declared aim setup.seen
  well = record { observation = observation; is = run.legal.1.1; good = good_end observation (entries_of moves) setup.seen run.saw }

  told : IsTold setup.declared aim.purpose observation.exchanges setup.seen
  told = told_by setup.declared aim setup.seen well

  are : reverse observation.exchanges ≡ as_exchanges (seen_effects moves)
  are = effects_are (reverse observation.exchanges) (seen_effects moves)
      (λ x m. all_among (λ (y : Exchange). is_look y.request y.outcome) observation.exchanges x told.looks (from_reverse observation.exchanges x m)) run.world.2.0

  among : (x : Exchange) → Among observation.exchanges x → Among (as_exchanges (seen_effects moves)) x
  among x m = subst (λ (xs : List Exchange). Among xs x) are (among_reverse observation.exchanges x m)

  looks : AreLooks (as_exchanges (seen_effects moves))
  looks x m = all_among (λ (y : Exchange). is_look y.request y.outcome) observation.exchanges x told.looks
      (from_reverse observation.exchanges x (subst (λ (xs : List Exchange). Among xs x) (sym are) m))

  -- the containers were listed
  was_listed : seen_effects moves ≡ [] → ⊥
  was_listed none =
      let there : Among (as_exchanges []) (answered (Request.ListContainers setup.declared.project) (Reply.Containers told.rows))
      = subst (λ (es : List Effect). Among (as_exchanges es) (answered (Request.ListContainers setup.declared.project) (Reply.Containers told.rows))) none (among _ told.listed) in there

  seen_lives : IsUndisturbed moves → (row : Listed) → Among setup.seen.containers row → is_live row.state ≡ true → IsLiveAt engine row.id row.labels
  seen_lives still row m live =
      let n : Among told.rows row = from_firsts (λ (r : Listed). r.id) told.rows row (subst (λ (rows : List Listed). Among rows row) told.containers m) in
      subst (λ (x : Engine). IsLiveAt x row.id row.labels) (sym run.world.2.1)
      (listed_lives setup first setup.declared.project told.rows row n live moves run.world.0 run.world.1 empty looks still (among _ told.listed))

-- the effect of an action
module _ (aim : Aim) (setup : Setup) (first : Engine) (a : ℕ) (request : Request) (reply : Reply) (moves : List Move) (old new : Engine)
    (run : IsRunning aim setup first moves old) (effect : IsEffect setup moves a request reply old new) where
  abbrev before : ℕ → Option Reply
  before = effects moves

  abbrev after : ℕ → Option Reply
  after = effects (Took (OfAction a) request reply ∷ moves)

  held : Holds setup before old
  held = holds aim setup first moves old run

  short : HasSmallNumbers setup.declared
  short slot m = (run.own slot m).number

  -- an action that another one needs had its effect before that one's
  not_needed : (x : ℕ) (kind other : ActionKind) (answer : Reply) → kind_of setup.actions x ≡ Some kind → before x ≡ Some answer → kind_of setup.actions a ≡ Some other
      → is_needed_by (basis_of aim setup) kind other ≡ true → ⊥
  not_needed x kind other answer k e h needed =
      let claim = effect_claimed setup first old moves x answer run.world e in
      let lawful = legal_tail aim setup (Entry.Claim claim.worker x ∷ claim.tail) (entries_of moves) run.legal claim.claimed in
      let well = needed_well aim setup claim.tail claim.worker x a lawful (run.plan.needs x a kind other k h needed) in
      let now = still_well aim setup claim.tail (entries_of moves) a run.legal (tail_of (Entry.Claim claim.worker x) claim.tail (entries_of moves) claim.claimed) well in
      let has = each_has_effect setup first old moves a run.world now in
      let bad : None ≡ Some has.0 = sym effect.none_yet ∙ has.1.effect in cc bad

  -- a slot's container is there, and is the slot's
  record IsBody (id : List ℕ) (slot : Slot) : Type 0 where
    row : ContainerRow
    is_there : container_at old id ≡ Some row
    own : is_of_slot setup.declared.project slot row.labels ≡ true

  body : (s : ℕ) (slot : Slot) (id : List ℕ) → slot_at setup.declared s ≡ Some slot → IsSlotId setup before s id → IsBody id slot
  body s slot id there (OfKept other listed there2 kept same) =
      let slots : Some other ≡ Some slot = sym there2 ∙ there in
      let one : other ≡ slot = cc slots in
      let at = kept_at setup.declared setup.seen other listed (from_place setup.declared.slots s other there2) kept in
      let x = held.seen at.c listed at.listed_is (kept_unremoved aim setup first old moves run before at.c listed at.listed_is at.kept) in
      record {
        row = x.row;
        is_there = subst (λ (i : List ℕ). container_at old i ≡ Some x.row) same x.is_there;
        own = subst (λ (k : Slot). is_of_slot setup.declared.project k x.row.labels ≡ true) one
            (ap (is_of_slot setup.declared.project other) x.labels_are ∙ agrees_of setup.declared setup.seen other listed at.agrees);
      }
  body s slot id there (OfMade b other m) =
      let slots : Some other ≡ Some slot = sym m.slot_is ∙ there in
      let one : other ≡ slot = cc slots in
      let x = (held.made b s other id m).2 in
      record {
        row = x.row;
        is_there = x.is_there;
        own = subst (λ (k : Slot). is_of_slot setup.declared.project k x.row.labels ≡ true) one
            (ap (is_of_slot setup.declared.project other) x.labels_are ∙ (run.own other (from_place setup.declared.slots s other m.slot_is)).labels);
      }

  -- a slot's id stays its id
  its_after : (s : ℕ) (id : List ℕ) → IsSlotId setup before s id → IsSlotId setup after s id
  its_after s id (OfKept slot listed there kept same) = OfKept slot listed there kept same
  its_after s id (OfMade b slot m) = OfMade b slot (record {
    kind_is = m.kind_is;
    slot_is = m.slot_is;
    effect_is = effect_kept moves a b request reply (Reply.Made id) effect.none_yet m.effect_is;
  })

  -- no action stops the container of a slot that was started
  spared : (b s : ℕ) (slot : Slot) (id : List ℕ) (answer : Reply) → kind_of setup.actions b ≡ Some (StartSlot s) → slot_at setup.declared s ≡ Some slot → before b ≡ Some answer
      → IsSlotId setup before s id → (kind : ActionKind) (row : Listed) → kind_of setup.actions a ≡ Some kind → Ends setup kind row → row.id ≡ id → ⊥
  spared b s slot id answer k there e (OfKept other listed there2 kept same) (StopContainer c) row h ends is =
      let m = from_place setup.declared.slots s other there2 in
      let one : listed ≡ row = same_row setup.seen.containers listed row (seen_ids aim setup first old moves run)
      (kept_is setup.declared setup.seen other listed kept).there (from_place setup.seen.containers c row ends) (same ∙ sym is) in
      let keeps : is_kept setup.declared setup.seen row ≡ true = subst (λ (r : Listed). is_kept setup.declared setup.seen r ≡ true) one
      (kept_at setup.declared setup.seen other listed m kept).kept in
      both_ways (is_wanted (basis_of aim setup) (StopContainer c)) ((leaves aim setup first old moves run).stops c row ends keeps)
      ((plan_of aim setup first old moves run).wanted a (StopContainer c) h)
  spared b s slot id answer k there e (OfKept other listed there2 kept same) (StopKept t) row h ends is =
      let one : listed ≡ row = same_row setup.seen.containers listed row (seen_ids aim setup first old moves run)
      (kept_is setup.declared setup.seen other listed kept).there (kept_is setup.declared setup.seen ends.0 row ends.2).there (same ∙ sym is) in
      let both : ends.0 ≡ other = of_one setup.declared run.whole short ends.0 other row.labels (from_place setup.declared.slots t ends.0 ends.1) (from_place setup.declared.slots s other there2)
      (kept_is setup.declared setup.seen ends.0 row ends.2).own
      (subst (λ (r : Listed). is_of_slot setup.declared.project other r.labels ≡ true) one (kept_is setup.declared setup.seen other listed kept).own) in
      let place : s ≡ t = same_place setup.declared.slots s t other (slots_differ setup.declared run.whole short) there2 (ends.1 ∙ ap Some both) in
      not_needed b (StartSlot s) (StopKept t) answer k e h (eq-eqb s t place)
  spared b s slot id answer k there e (OfMade d other m) (StopContainer c) row h ends is =
      held.apart d s other id c row m ends is (λ x r f. not_needed x (RemoveContainer c) (StopContainer c) Reply.Done r f h (eq-eqb c c refl))
  spared b s slot id answer k there e (OfMade d other m) (StopKept t) row h ends is =
      let at = kept_at setup.declared setup.seen ends.0 row (from_place setup.declared.slots t ends.0 ends.1) ends.2 in
      held.apart d s other id at.c row m at.listed_is is (kept_unremoved aim setup first old moves run before at.c row at.listed_is at.kept)
  spared b s slot id answer k there e its _ row h ends is = absurd ends

  not_stopped : (b s : ℕ) (slot : Slot) (id : List ℕ) (answer : Reply) → kind_of setup.actions b ≡ Some (StartSlot s) → slot_at setup.declared s ≡ Some slot → before b ≡ Some answer
      → IsSlotId setup before s id → is_stop_of id request reply ≡ false
  not_stopped b s slot id answer k there e its = at (is_stop_of id request reply) refl
    where
      at : (t : Bool) → is_stop_of id request reply ≡ t → is_stop_of id request reply ≡ false
      at false h = h
      at true h =
          let q = stops id request reply h in
          let asks : request_of setup effect.asks.tail effect.asks.kind ≡ Some (Request.Stop id q.0) = effect.asks.request_is ∙ ap Some q.1 in
          let r = stop_is setup effect.asks.tail effect.asks.kind id q.0 (of_kind setup effect.asks.tail effect.asks.kind (Request.Stop id q.0) asks) asks in
          absurd (spared b s slot id answer k there e its effect.asks.kind r.0 effect.asks.kind_is r.1 r.2)

  -- the start of a slot
  starts_now : (s : ℕ) (slot : Slot) → kind_of setup.actions a ≡ Some (StartSlot s) → slot_at setup.declared s ≡ Some slot → is_good (StartSlot s) reply ≡ true
      → IsStartedAt setup after s slot new
  starts_now s slot k there good =
      let kinds : Some effect.asks.kind ≡ Some (StartSlot s) = sym effect.asks.kind_is ∙ k in
      let kind : effect.asks.kind ≡ StartSlot s = cc kinds in
      let asks : request_of setup effect.asks.tail (StartSlot s) ≡ Some request = subst (λ (x : ActionKind). request_of setup effect.asks.tail x ≡ Some request) kind effect.asks.request_is in
      let q = map_from (λ (i : List ℕ). Request.Start i) (slot_id setup effect.asks.tail s) request asks in
      let its = told_slot_id aim setup first old moves run effect.asks.tail
      (tail_of (Entry.Claim effect.asks.worker a) effect.asks.tail (entries_of moves) effect.asks.claimed) s slot q.0 there q.1 in
      let x = body s slot q.0 there its in
      record {
        id = q.0;
        its = its_after s q.0 its;
        labels = x.row.labels;
        own = x.own;
        lives = start_lives old new q.0 x.row s reply x.is_there (subst (λ (r : Request). Answers old r reply new) (sym q.2) effect.answers) good;
      }

  fills_acted : Fills setup (was_stopped moves) before old → Fills setup (was_stopped (Took (OfAction a) request reply ∷ moves)) after new
  fills_acted f = record {
    seen = λ row m live e.
        let parts = or_parts (is_stop_of row.id request reply) (was_stopped moves row.id) e in
        stays_live old new row.id row.labels (f.seen row m live parts.1) request reply effect.answers parts.0;
    started = λ b s slot other k there e good. at b s slot other k there good (effect_new moves a b request reply other e);
  }
    where
      at : (b s : ℕ) (slot : Slot) (other : Reply) → kind_of setup.actions b ≡ Some (StartSlot s) → slot_at setup.declared s ≡ Some slot → is_good (StartSlot s) other ≡ true
          → ((a ≡ b) × (reply ≡ other)) ⊎ (before b ≡ Some other) → IsStartedAt setup after s slot new
      at b s slot other k there good (inl now) =
          starts_now s slot (subst (λ (x : ℕ). kind_of setup.actions x ≡ Some (StartSlot s)) (sym now.0) k) there (ap (is_good (StartSlot s)) now.1 ∙ good)
      at b s slot other k there good (inr was) =
          let x = f.started b s slot other k there was good in
          record {
            id = x.id;
            its = its_after s x.id x.its;
            labels = x.labels;
            own = x.own;
            lives = stays_live old new x.id x.labels x.lives request reply effect.answers (not_stopped b s slot x.id other k there was x.its);
          }

-- what holds along the moves: the containers were listed, and the Engine is filled where it was left alone since
abbrev IsFilled : Setup → List Move → Engine → Type 0
IsFilled setup moves engine = (seen_effects moves ≡ [] → ⊥) × (IsUndisturbed moves → Fills setup (was_stopped moves) (effects moves) engine)

module _ (aim : Aim) (setup : Setup) (first : Engine) where
  filling : IsKept aim setup first (IsFilled setup)
  filling = record {
    begins = λ observation moves engine run empty none. (
      was_listed aim setup first engine observation moves run empty,
      λ still. record {
        seen = λ row m live e. seen_lives aim setup first engine observation moves run empty still row m live;
        started = λ a s slot reply k there e good. let bad : None ≡ Some reply = sym (none a) ∙ e in absurd (cc bad);
      },
    );
    notes = λ entry moves engine run filled. filled;
    acts = λ a request reply moves old new run effect filled. (
      filled.0,
      λ still. fills_acted aim setup first a request reply moves old new run effect (filled.1 still),
    );
    polls = λ n id reply moves engine run filled. filled;
    changes = λ moves old new run change filled. (filled.0, λ still. absurd (filled.0 still));
  }

  -- a slot that was seen live and isn't lacking has a live container
  module _ (moves : List Move) (now : Engine) (run : IsRunning aim setup first moves now) (still : IsUndisturbed moves) where
    fills : Fills setup (was_stopped moves) (effects moves) now
    fills = (holds_along aim setup first (IsFilled setup) filling moves now run).1 still

    is_found : (slot : Slot) (id : List ℕ) (labels : List Var) → is_of_slot setup.declared.project slot labels ≡ true → IsLiveAt now id labels → has_live setup.declared now slot ≡ true
    is_found slot id labels own x =
        any_of_list (λ (row : ContainerRow). is_of_slot setup.declared.project slot row.labels && is_live row.report.state) (found_containers now) x.row
        (found_first id now.containers x.row x.is_there).0
        (and_from _ _ (ap (is_of_slot setup.declared.project slot) x.labels_are ∙ own) x.live)

    -- one of whose live containers wasn't stopped
    unemptied : (slot : Slot) → was_emptied setup moves slot ≡ false → has_live setup.declared now slot ≡ true
    unemptied slot e =
        let r = one_fails (λ (row : Listed). not (is_of_slot setup.declared.project slot row.labels && is_live row.state) || was_stopped moves row.id) setup.seen.containers e in
        let row : Listed = r.0 in
        let parts = or_parts (not (is_of_slot setup.declared.project slot row.labels && is_live row.state)) (was_stopped moves row.id) r.2 in
        let own = and_parts (is_of_slot setup.declared.project slot row.labels) (is_live row.state)
        (not-false (is_of_slot setup.declared.project slot row.labels && is_live row.state) parts.0) in
        is_found slot row.id row.labels own.0 (fills.seen row r.1 own.1 parts.1)

    -- that was started
    started : (s : ℕ) (slot : Slot) → slot_at setup.declared s ≡ Some slot → was_started setup moves s ≡ true → has_live setup.declared now slot ≡ true
    started s slot there e =
        let r = some_from (λ (a : ℕ). option_map_or (is_good (StartSlot s)) (effect_of moves (OfAction a)) false) (start_of setup.actions s) e in
        let kind = starts_it s (kind_of setup.actions r.0) (found_passes (λ (a : ℕ). is_start_of s (kind_of setup.actions a)) (places setup.actions) r.0 r.1) in
        let q = some_from (is_good (StartSlot s)) (effect_of moves (OfAction r.0)) r.2 in
        let x = fills.started r.0 s slot q.0 kind there q.1 q.2 in
        is_found slot x.id x.labels x.own x.lives

    pub filled_here : (s : ℕ) (slot : Slot) → slot_at setup.declared s ≡ Some slot → was_live setup slot ≡ true → lacks setup moves slot.service s ≡ false
        → has_live setup.declared now slot ≡ true
    filled_here s slot there live e = at (and_cases (bytes_eq slot.service slot.service && was_live setup slot && was_emptied setup moves slot) (not (was_started setup moves s)) told)
      where
        told : (bytes_eq slot.service slot.service && was_live setup slot && was_emptied setup moves slot && not (was_started setup moves s)) ≡ false
        told = ap (λ (o : Option Slot). option_map_or (λ (x : Slot). bytes_eq x.service slot.service && was_live setup x && was_emptied setup moves x) o false
            && not (was_started setup moves s)) (sym there) ∙ e

        was : (bytes_eq slot.service slot.service && was_live setup slot) ≡ true
        was = and_from _ _ ((bytes_eq-Decides slot.service slot.service).1 refl) live

        at : ((bytes_eq slot.service slot.service && was_live setup slot && was_emptied setup moves slot) ≡ false) ⊎ (not (was_started setup moves s) ≡ false)
            → has_live setup.declared now slot ≡ true
        at (inr h) = started s slot there (not-false (was_started setup moves s) h)
        at (inl h) = by (and_cases (bytes_eq slot.service slot.service && was_live setup slot) (was_emptied setup moves slot) h)
          where
            by : ((bytes_eq slot.service slot.service && was_live setup slot) ≡ false) ⊎ (was_emptied setup moves slot ≡ false) → has_live setup.declared now slot ≡ true
            by (inl f) = absurd (both_ways _ f was)
            by (inr f) = unemptied slot f

-- fewer pass a test that only those pass that pass another
fewer : {X : Type 0} (p q : X → Bool) (xs : List X) → ((x : X) → p x ≡ true → q x ≡ true) → length (filter p xs) ≤ length (filter q xs)
fewer p q [] h = omega arith
fewer {X} p q (x ∷ xs) h = at (p x) (q x) (h x) (fewer p q xs h)
  where
    at : (s t : Bool) → (s ≡ true → t ≡ true) → length (filter p xs) ≤ length (filter q xs)
        → length (cond s (x ∷ filter p xs) (filter p xs)) ≤ length (cond t (x ∷ filter q xs) (filter q xs))
    at false false f rest = rest
    at false true f rest = omega (arith, rest)
    at true true f rest = omega (arith, rest)
    at true false f rest = absurd (cc (f refl))

-- no more slots are empty than lack a live container
module _ (aim : Aim) (setup : Setup) (first : Engine) (moves : List Move) (now : Engine) (run : IsRunning aim setup first moves now) (still : IsUndisturbed moves) (key : List ℕ) where
  empty_lacks : (s : ℕ) → is_empty setup now key s ≡ true → lacks setup moves key s ≡ true
  empty_lacks s e = at (lacks setup moves key s) refl
    where
      at : (t : Bool) → lacks setup moves key s ≡ t → lacks setup moves key s ≡ true
      at true h = h
      at false h =
          let r = some_from (λ (slot : Slot). bytes_eq slot.service key && was_live setup slot && not (has_live setup.declared now slot)) (slot_at setup.declared s) e in
          let slot : Slot = r.0 in
          let two = and_parts (bytes_eq slot.service key && was_live setup slot) (not (has_live setup.declared now slot)) r.2 in
          let one = and_parts (bytes_eq slot.service key) (was_live setup slot) two.0 in
          let same = (bytes_eq-Decides slot.service key).0 one.0 in
          let has = filled_here aim setup first moves now run still s slot r.1 one.1 (ap (λ (k : List ℕ). lacks setup moves k s) same ∙ h) in
          absurd (both_ways (has_live setup.declared now slot) (not-true (has_live setup.declared now slot) two.1) has)

  few_empty : (count : ℕ) → length (lacking setup moves key) ≤ count → length (empty_slots setup now key) ≤ count
  few_empty count most =
      let less : length (empty_slots setup now key) ≤ length (lacking setup moves key) = fewer (is_empty setup now key) (lacks setup moves key) (places setup.declared.slots) empty_lacks in
      omega (arith, less, most)

short_numbers : (declared : Declared) → HasOwnSpecs declared → HasSmallNumbers declared
short_numbers declared own slot m = (own slot m).number

-- a moment of a run that has begun
module _ (task : Task) (journal : List Entry) (first now last : Engine) (later moves : List Move) (up : is_up task.aim.purpose ≡ true) (whole : IsWhole task.declared)
    (own : HasOwnSpecs task.declared) (legal : IsLegal task.aim (run_setup task journal) (reverse journal)) (of : IsWorldOfRun task journal first (later ++ moves) last)
    (world : World (run_setup task journal) first moves now) (begun : is_some (seen_in (entries_of moves)) ≡ true) where
  abbrev setup : Setup
  setup = run_setup task journal

  running : IsRunning task.aim setup first moves now
  running =
      let lawful = legal_before task.aim setup later moves (subst (IsLegal task.aim setup) (sym of.journal) legal) in
      record {
        up = up;
        whole = whole;
        own = own;
        plan = has_plan (basis_of task.aim setup);
        legal = lawful;
        saw = begun_seen task.aim setup (entries_of moves) lawful begun;
        world = world;
      }

pub filled_unless_lacking : FilledUnlessLacking
filled_unless_lacking task journal first now last later moves s slot up whole own legal of world begun still there live e =
    filled_here task.aim (run_setup task journal) first moves now (running task journal first now last later moves up whole own legal of world begun) still s slot there live e

pub empties_at_most : EmptiesAtMost
empties_at_most task journal first now last later moves service count up whole own legal of world begun still m rolls uncrossed =
    few_empty task.aim (run_setup task journal) first moves now (running task journal first now last later moves up whole own legal of world begun) still service.key count
    (rolls_at_most task journal first last later moves service count up whole (short_numbers task.declared own) legal of m rolls uncrossed)

pub cut_runs_empty_at_most : CutRunsEmptyAtMost
cut_runs_empty_at_most declared images first now ran last later moves service count whole own is split world begun still m rolls uncrossed =
    let lawful = legal_before ran.aim ran.setup later moves (subst (λ (ms : List Move). IsLegal ran.aim ran.setup (entries_of ms)) split (legal_of ran.aim ran.setup ran.moves is.journal)) in
    let run : IsRunning ran.aim ran.setup first moves now = record {
      up = is.up;
      whole = subst IsWhole (sym is.declares) whole;
      own = subst HasOwnSpecs (sym is.declares) own;
      plan = subst (HasPlan (basis_of ran.aim ran.setup)) (sym is.plan) (has_plan (basis_of ran.aim ran.setup));
      legal = lawful;
      saw = begun_seen ran.aim ran.setup (entries_of moves) lawful begun;
      world = world;
    } in
    few_empty ran.aim ran.setup first moves now run still service.key count
    (cut_runs_roll_at_most declared images first ran last later moves service count whole (short_numbers declared own) is split m rolls uncrossed)
