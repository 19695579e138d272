-- Each move of a run of `up` keeps what is known of the containers.
use Rattle.std.proofs.Common.{◌≡◌, ◌⊎◌, ℕ, Bool, true, false, ◌||◌, List, [], ◌∷◌, Option, Some, None, slice_get, refl, sym, ap, ◌∙◌, subst, inl, inr}
use Rattle.std.proofs.lemmas.Slice.Eq.{bytes_eq-Decides}
use Rattle.std.specs.List.{AllZip, list_any}
use Rattle.std.specs.Str.{bytes_eq}
use Rattle.engine_types.specs.declared.Aim.{Aim}
use Rattle.tree_base.specs.declared.Var.{Var}
use Rattle.engine_types.specs.declared.ActionKind.TheVariants.{CreateSlot, RemoveContainer}
use Rattle.engine_types.specs.declared.ContainerRow.{ContainerRow}
use Rattle.engine_types.specs.declared.ContainerSpec.{ContainerSpec}
use Rattle.engine_types.specs.declared.Endpoint.{Endpoint}
use Rattle.engine_types.specs.declared.Engine.{Engine}
use Rattle.engine_types.specs.declared.Entry.{Entry}
use Rattle.engine_types.specs.declared.Listed.{Listed}
use Rattle.engine_types.specs.declared.Reply.{Reply}
use Rattle.engine_types.specs.declared.Request.{Request}
use Rattle.engine_types.specs.declared.Slot.{Slot}
use Rattle.run_model.specs.EngineRules.{Among, Answers, Creates, container_at, created_row, endpoints_of, image_at, is_of_project, network_has_name}
use Rattle.run_model.specs.Journals.{Setup}
use Rattle.run_model.specs.Labels.{is_lost_state}
use Rattle.run_model.specs.Legal.{IsLegal}
use Rattle.run_model.specs.Plans.{kind_of, seen_image, slot_at}
use Rattle.run_model.specs.Requests.{OfAction}
use Rattle.run_model.specs.Worlds.{Did, Move, Took}
use Rattle.run_model.proofs.DistinctLists.{from_place}
use Rattle.run_model.proofs.RequestLemmas.{same_text}
use Rattle.world_laws.proofs.Bodies.{AlikeAt, Turn, itself_keeps, on_named, turn}
use Rattle.world_laws.proofs.Along.{IsEffect, IsKept, holds_along}
use Rattle.world_laws.proofs.Effects.{effect_here, effect_kept, effect_new}
use Rattle.world_laws.proofs.Finished.{IsRunning}
use Rattle.world_laws.proofs.Held.{Holds, IsFirstName, IsMade, IsUnremoved, MadeAt, Origin, SeenAt, WasMade, WasSeen, at_stays, effects, holds_seen, holds_still}
use Rattle.world_laws.proofs.Keeping.{KeepsResources, keeps_itself, keeps_of}
use Rattle.world_laws.proofs.Planning.{create_is, place_of_id, remove_of, seen_ids}
use Rattle.world_laws.proofs.ResourceMoves.{effect_spares, plan_of}
use Rattle.world_laws.proofs.Resources.{image_stays}
use Rattle.world_laws.proofs.Sights.{seen_is_there}
use Rattle.world_laws.proofs.Turns.{Came, IsTaken, Made, Stayed, came_from, stays_or_taken}

-- where one endpoint has a name, one of the networks that fit the endpoints has it
named_among : (engine : Engine) (name : List ℕ) (endpoints : List Endpoint) (networks : List (List ℕ))
    → AllZip (λ (endpoint : Endpoint) (network : List ℕ). network_has_name engine endpoint.key network ≡ true) endpoints networks
    → list_any (λ (endpoint : Endpoint). bytes_eq endpoint.key name) endpoints ≡ true → list_any (network_has_name engine name) networks ≡ true
named_among engine name [] networks a e = absurd (cc e)
named_among engine name (endpoint ∷ endpoints) [] a e = absurd a
named_among engine name (endpoint ∷ endpoints) (network ∷ networks) a e = at (bytes_eq endpoint.key name) refl e (named_among engine name endpoints networks a.1)
  where
    later : (t : Bool) → list_any (network_has_name engine name) networks ≡ true → (t || list_any (network_has_name engine name) networks) ≡ true
    later true h = refl
    later false h = h

    at : (t : Bool) → bytes_eq endpoint.key name ≡ t → (t || list_any (λ (x : Endpoint). bytes_eq x.key name) endpoints) ≡ true
        → (list_any (λ (x : Endpoint). bytes_eq x.key name) endpoints ≡ true → list_any (network_has_name engine name) networks ≡ true)
        → list_any (network_has_name engine name) (network ∷ networks) ≡ true
    at true h f rest =
        let here : network_has_name engine name network ≡ true = subst (λ (n : List ℕ). network_has_name engine n network ≡ true) ((bytes_eq-Decides endpoint.key name).0 h) a.0 in
        rw here refl
    at false h f rest = later (network_has_name engine name network) (rest f)

module _ (aim : Aim) (setup : Setup) (first : Engine) (a : ℕ) (request : Request) (reply : Reply) (moves : List Move) (old new : Engine)
    (run : IsRunning aim setup first moves old) (effect : IsEffect setup moves a request reply old new) (held : Holds setup (effects moves) old) where
  abbrev before : ℕ → Option Reply
  before = effects moves

  abbrev after : ℕ → Option Reply
  after = effects (Took (OfAction a) request reply ∷ moves)

  pub the_turn : Turn old request reply new
  the_turn = turn old request reply new effect.answers

  pub networks : KeepsResources old new
  networks = keeps_of old new request reply (effect_spares aim setup first a request reply moves old new run effect)

  -- no more is removed than was
  unremoved_before : (c : ℕ) → IsUnremoved setup after c → IsUnremoved setup before c
  unremoved_before c u b k e = u b k (effect_kept moves a b request reply Reply.Done effect.none_yet e)

  -- the action whose effect this is removes the container that is taken
  pub taken_is : (id : List ℕ) (c : ℕ) (listed : Listed) → IsTaken request reply id → slice_get setup.seen.containers c ≡ Some listed → listed.id ≡ id
      → (kind_of setup.actions a ≡ Some (RemoveContainer c)) × (after a ≡ Some Reply.Done)
  taken_is id c listed taken e same =
      let asks = effect.asks.request_is ∙ ap Some taken.0 in
      let r = remove_of setup effect.asks.tail effect.asks.kind id asks in
      let place = place_of_id setup.seen.containers r.c c r.listed listed (seen_ids aim setup first old moves run) r.listed_is e (r.id_is ∙ sym same) in
      (effect.asks.kind_is ∙ ap Some (r.kind_is ∙ ap (λ (x : ℕ). RemoveContainer x) place), effect_here moves a request reply ∙ ap Some taken.1)

  seen_after : (c : ℕ) (listed : Listed) → slice_get setup.seen.containers c ≡ Some listed → IsUnremoved setup after c → SeenAt new listed
  seen_after c listed e u = at (stays_or_taken old request reply new listed.id x.row the_turn x.is_there)
    where
      x : SeenAt old listed
      x = held.seen c listed e (unremoved_before c u)

      at : AlikeAt (container_at old listed.id) (container_at new listed.id) ⊎ IsTaken request reply listed.id → SeenAt new listed
      at (inl alike) = at_stays old new listed.id listed.labels listed.image_id (is_lost_state listed.state) (λ n. list_any (bytes_eq n) listed.networks ≡ true) alike networks x
      at (inr taken) = let r = taken_is listed.id c listed taken e refl in absurd (u a r.0 r.1)

  -- a container that is made is the slot's
  made_now : (s : ℕ) (slot : Slot) (id : List ℕ) → kind_of setup.actions a ≡ Some (CreateSlot s) → slot_at setup.declared s ≡ Some slot → reply ≡ Reply.Made id
      → Creates old new slot.name slot.spec id
  made_now s slot id k e told =
      let kinds : Some effect.asks.kind ≡ Some (CreateSlot s) = sym effect.asks.kind_is ∙ k in
      let kind : effect.asks.kind ≡ CreateSlot s = cc kinds in
      let asks : Some (Request.Create slot.name slot.spec) ≡ Some request = sym (rw (kind, e) refl) ∙ effect.asks.request_is in
      let is : Request.Create slot.name slot.spec ≡ request = cc asks in
      let answers : Answers old (Request.Create slot.name slot.spec) (Reply.Made id) new = rw (← is, told) at effect.answers in answers

  created_at : (slot : Slot) (id : List ℕ) → Among setup.declared.slots slot → (c : Creates old new slot.name slot.spec id) → MadeAt setup new slot id
  created_at slot id m c = (
    seen.0,
    seen.1,
    record {
      row = created_row id slot.name slot.spec c.image c.networks;
      is_there = c.changes.containers id ∙ rw (same_text id) refl;
      labels_are = refl;
      image_is = image;
      lost_is = refl;
      on = named;
    },
  )
    where
      seen : (image : List ℕ) × (seen_image setup.seen slot ≡ Some image) × (image_at old slot.image ≡ Some image)
      seen = image_stays aim setup first old moves run slot m

      image : c.image ≡ seen.0
      image =
          let here : image_at old slot.image ≡ Some c.image = rw (run.own slot m).image at c.image_is in
          let same : Some c.image ≡ Some seen.0 = sym here ∙ seen.2 in cc same

      named : (n : List ℕ) → IsFirstName setup.declared slot n → list_any (network_has_name new n) c.networks ≡ true
      named n f =
          let endpoint = subst (λ (x : List ℕ). list_any (λ (e : Endpoint). bytes_eq e.key x) (endpoints_of slot.spec) ≡ true) (sym f.2) ((run.own slot m).endpoint f.0 f.1) in
          let row = created_row id slot.name slot.spec c.image c.networks in
          on_named old new n row row networks (record { labels = refl; image_id = refl; lost = refl; networks = λ i e. e })
          (named_among old n (endpoints_of slot.spec) c.networks c.networks_are endpoint)

  -- what was made isn't taken away
  pub made_spared : (b s : ℕ) (slot : Slot) (id : List ℕ) → IsMade setup before b s slot id → IsTaken request reply id → ⊥
  made_spared b s slot id was t =
      let r = remove_of setup effect.asks.tail effect.asks.kind id (effect.asks.request_is ∙ ap Some t.0) in
      held.apart b s slot id r.c r.listed was r.listed_is r.id_is (λ d k e.
      let same : d ≡ a = (plan_of aim setup first old moves run).once d a (RemoveContainer r.c) k (effect.asks.kind_is ∙ ap Some r.kind_is) in
      let none : before d ≡ None = subst (λ (x : ℕ). before x ≡ None) (sym same) effect.none_yet in
      let bad : None ≡ Some Reply.Done = sym none ∙ e in cc bad)

  made_after : (b s : ℕ) (slot : Slot) (id : List ℕ) → IsMade setup after b s slot id → MadeAt setup new slot id
  made_after b s slot id m = at (effect_new moves a b request reply (Reply.Made id) m.effect_is)
    where
      stays : IsMade setup before b s slot id → MadeAt setup new slot id
      stays was = on (held.made b s slot id was)
        where
          on : MadeAt setup old slot id → MadeAt setup new slot id
          on x = by (stays_or_taken old request reply new id x.2.row the_turn x.2.is_there)
            where
              by : AlikeAt (container_at old id) (container_at new id) ⊎ IsTaken request reply id → MadeAt setup new slot id
              by (inl alike) = (x.0, x.1, at_stays old new id slot.spec.labels x.0 false (IsFirstName setup.declared slot) alike networks x.2)
              by (inr t) = absurd (made_spared b s slot id was t)

      at : ((a ≡ b) × (reply ≡ Reply.Made id)) ⊎ (before b ≡ Some (Reply.Made id)) → MadeAt setup new slot id
      at (inl new_one) =
          let k = subst (λ (x : ℕ). kind_of setup.actions x ≡ Some (CreateSlot s)) (sym new_one.0) m.kind_is in
          created_at slot id (from_place setup.declared.slots s slot m.slot_is) (made_now s slot id k m.slot_is new_one.1)
      at (inr e) = stays (record { kind_is = m.kind_is; slot_is = m.slot_is; effect_is = e })

  all_after : (id : List ℕ) (row : ContainerRow) → container_at new id ≡ Some row → is_of_project setup.declared.project row.labels ≡ true → Origin setup after id row.labels
  all_after id row e p = at (came_from old request reply new id row the_turn e)
    where
      later : (labels : List Var) → Origin setup before id labels → (IsTaken request reply id → ⊥) → Origin setup after id labels
      later labels (WasSeen c listed h same l u) apart = WasSeen c listed h same l (λ b k f. at_new b k (effect_new moves a b request reply Reply.Done f))
        where
          at_new : (b : ℕ) → kind_of setup.actions b ≡ Some (RemoveContainer c) → ((a ≡ b) × (reply ≡ Reply.Done)) ⊎ (before b ≡ Some Reply.Done) → ⊥
          at_new b k (inr f) = u b k f
          at_new b k (inl f) =
              let here = subst (λ (x : ℕ). kind_of setup.actions x ≡ Some (RemoveContainer c)) (sym f.0) k in
              let kinds : Some effect.asks.kind ≡ Some (RemoveContainer c) = sym effect.asks.kind_is ∙ here in
              let kind : effect.asks.kind ≡ RemoveContainer c = cc kinds in
              let asks : Some (Request.Remove listed.id) ≡ Some request = sym (rw (kind, h) refl) ∙ effect.asks.request_is in
              let is : Request.Remove listed.id ≡ request = cc asks in
              apart (sym is ∙ ap (λ (i : List ℕ). Request.Remove i) same, f.1)
      later labels (WasMade b s slot m l) apart =
          WasMade b s slot (record { kind_is = m.kind_is; slot_is = m.slot_is; effect_is = effect_kept moves a b request reply (Reply.Made id) effect.none_yet m.effect_is }) l

      at : Came old request reply new id row → Origin setup after id row.labels
      at (Stayed was h alike apart) =
          subst (λ (labels : List Var). Origin setup after id labels) (sym alike.labels)
          (later was.labels (held.all id was h (subst (λ (labels : List Var). is_of_project setup.declared.project labels ≡ true) alike.labels p)) apart)
      at (Made name spec q r c l) =
          let x = create_is setup effect.asks.tail effect.asks.kind name spec (effect.asks.request_is ∙ ap Some q) in
          WasMade a x.s x.slot (record { kind_is = effect.asks.kind_is ∙ ap Some x.kind_is; slot_is = x.slot_is; effect_is = effect_here moves a request reply ∙ ap Some r })
          (ap (λ (y : ContainerSpec). y.labels) (sym x.spec_is) ∙ sym l)

  apart_after : (b s : ℕ) (slot : Slot) (id : List ℕ) (c : ℕ) (listed : Listed) → IsMade setup after b s slot id → slice_get setup.seen.containers c ≡ Some listed → listed.id ≡ id
      → IsUnremoved setup after c → ⊥
  apart_after b s slot id c listed m e same u = at (effect_new moves a b request reply (Reply.Made id) m.effect_is)
    where
      at : ((a ≡ b) × (reply ≡ Reply.Made id)) ⊎ (before b ≡ Some (Reply.Made id)) → ⊥
      at (inl new_one) =
          let k = subst (λ (x : ℕ). kind_of setup.actions x ≡ Some (CreateSlot s)) (sym new_one.0) m.kind_is in
          let x = held.seen c listed e (unremoved_before c u) in
          let there : container_at old id ≡ Some x.row = subst (λ (i : List ℕ). container_at old i ≡ Some x.row) same x.is_there in
          let bad : None ≡ Some x.row = sym (made_now s slot id k m.slot_is new_one.1).fresh ∙ there in cc bad
      at (inr f) = held.apart b s slot id c listed (record { kind_is = m.kind_is; slot_is = m.slot_is; effect_is = f }) e same (unremoved_before c u)

  pub holds_acted : Holds setup after new
  holds_acted = record { seen = seen_after; made = made_after; all = all_after; apart = apart_after }

module _ (aim : Aim) (setup : Setup) (first : Engine) where
  holding : IsKept aim setup first (λ moves engine. Holds setup (effects moves) engine)
  holding = record {
    begins = λ observation moves engine run empty none.
        let legal : IsLegal aim setup (Entry.Seen observation ∷ []) = rw empty at run.legal in
        holds_seen aim.purpose setup engine (effects (Did (Entry.Seen observation) ∷ moves)) none (seen_is_there aim setup first engine moves observation run.world empty legal run.saw);
    notes = λ entry moves engine run held. held;
    acts = λ a request reply moves old new run effect held. holds_acted aim setup first a request reply moves old new run effect held;
    polls = λ n id reply moves engine run held. held;
    changes = λ moves old new run change held. holds_still setup (effects moves) old new (itself_keeps old new change) (keeps_itself old new change) held;
  }

  pub holds : (moves : List Move) (last : Engine) → IsRunning aim setup first moves last → Holds setup (effects moves) last
  holds moves last run = holds_along aim setup first (λ ms engine. Holds setup (effects ms) engine) holding moves last run
