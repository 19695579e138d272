-- What the moves of a run of `up` do to networks, volumes and images.
use Rattle.std.proofs.Common.{◌≡◌, ◌⊎◌, ℕ, Bool, true, false, List, [], ◌∷◌, Some, None, slice_get, refl, sym, ap, ◌∙◌, subst, inl, inr}
use Rattle.std.proofs.lemmas.Slice.Eq.{bytes_eq-Decides}
use Rattle.std.specs.List.{list_any}
use Rattle.std.specs.Prelude.{if◌then◌else◌}
use Rattle.std.specs.Str.{bytes_eq}
use Rattle.engine_types.specs.declared.Action.{Action}
use Rattle.engine_types.specs.declared.ActionKind.{ActionKind}
use Rattle.engine_types.specs.declared.ActionKind.TheVariants.{MakeVolume, MakeNetwork}
use Rattle.engine_types.specs.declared.Aim.{Aim}
use Rattle.engine_types.specs.declared.Engine.{Engine}
use Rattle.engine_types.specs.declared.Entry.{Entry}
use Rattle.engine_types.specs.declared.NetRow.{NetRow}
use Rattle.engine_types.specs.declared.NetworkSpec.{NetworkSpec}
use Rattle.engine_types.specs.declared.Observed.{Observed}
use Rattle.engine_types.specs.declared.Purpose.{Purpose}
use Rattle.engine_types.specs.declared.Reply.{Reply}
use Rattle.engine_types.specs.declared.Request.{Request}
use Rattle.engine_types.specs.declared.Slot.{Slot}
use Rattle.engine_types.specs.declared.VolumeSpec.{VolumeSpec}
use Rattle.run_model.specs.EngineRules.{Among, Answers, ChangesItself, ListsNetworks, ListsVolumes, SameNetworks, has_volume, image_at, network_at}
use Rattle.run_model.specs.Journals.{Setup}
use Rattle.run_model.specs.Observation.{listing_fault}
use Rattle.run_model.specs.Plans.{CarriesOut, kind_of, seen_image}
use Rattle.run_model.specs.Requests.{OfAction, OfPoll, request_of}
use Rattle.run_model.specs.Worlds.{Changed, Did, Move, Took, effect_of}
use Rattle.run_model.proofs.RollLaws.{carries}
use Rattle.run_model.proofs.RequestLemmas.{same_text}
use Rattle.world_laws.specs.Sights.{IsSightOf}
use Rattle.world_laws.proofs.Along.{IsEffect}
use Rattle.world_laws.proofs.Effects.{effect_here, effect_kept, effect_new}
use Rattle.world_laws.proofs.Finished.{IsRunning, basis_of}
use Rattle.world_laws.proofs.Keeping.{KeepsResources, MakesNetwork, Spares, answer_spares, keeps_itself, keeps_of, keeps_same, network_row}
use Rattle.world_laws.proofs.ActionRequests.{IsOfKind, network_kind, of_kind, wanted_sparing}

-- an action that has made a declared network
pub record IsMade (setup : Setup) (moves : List Move) (id : List ℕ) (row : NetRow) : Type 0 where
  pub action : ℕ
  pub place : ℕ
  pub network : NetworkSpec
  pub kind : kind_of setup.actions action ≡ Some (MakeNetwork place)
  pub declares : slice_get setup.declared.networks place ≡ Some network
  pub effect : effect_of moves (OfAction action) ≡ Some (Reply.Made id)
  pub is : row ≡ network_row id network

-- the Engine's networks are those that were seen and those that were made since
pub record HasNetworks (setup : Setup) (moves : List Move) (engine : Engine) : Type 0 where
  pub kept : (row : NetRow) → Among setup.seen.networks row → network_at engine row.id ≡ Some row
  pub made : (a n : ℕ) (network : NetworkSpec) (id : List ℕ) → kind_of setup.actions a ≡ Some (MakeNetwork n) → slice_get setup.declared.networks n ≡ Some network
      → effect_of moves (OfAction a) ≡ Some (Reply.Made id) → network_at engine id ≡ Some (network_row id network)
  pub from : (id : List ℕ) (row : NetRow) → network_at engine id ≡ Some row → Among setup.seen.networks row ⊎ IsMade setup moves id row

-- the Engine has the volumes that were seen and those that were made since
pub record HasVolumes (setup : Setup) (moves : List Move) (engine : Engine) : Type 0 where
  pub kept : (name : List ℕ) → list_any (bytes_eq name) setup.seen.volumes ≡ true → has_volume engine name ≡ true
  pub made : (a v : ℕ) (volume : VolumeSpec) → kind_of setup.actions a ≡ Some (MakeVolume v) → slice_get setup.declared.volumes v ≡ Some volume
      → effect_of moves (OfAction a) ≡ Some Reply.Done → has_volume engine volume.name ≡ true

-- what the Engine has of networks, volumes and images once the observation has ended well
pub record HasResources (setup : Setup) (moves : List Move) (engine : Engine) : Type 0 where
  pub networks : (setup.declared.networks ≡ []) ⊎ HasNetworks setup moves engine
  pub volumes : (setup.declared.volumes ≡ []) ⊎ HasVolumes setup moves engine
  pub images : (slot : Slot) → Among setup.declared.slots slot → (id : List ℕ) × (seen_image setup.seen slot ≡ Some id) × (image_at engine slot.image ≡ Some id)
  pub sound : listing_fault setup.declared Purpose.Up setup.seen ≡ None

-- what a move does to networks, volumes and images
pub record Goes (setup : Setup) (moves : List Move) (old : Engine) (move : Move) (new : Engine) : Type 0 where
  pub keeps : KeepsResources old new
  pub effects : (a : ℕ) (reply : Reply) → effect_of moves (OfAction a) ≡ Some reply → effect_of (move ∷ moves) (OfAction a) ≡ Some reply
  pub from : (id : List ℕ) (row : NetRow) → network_at new id ≡ Some row → (network_at old id ≡ Some row) ⊎ IsMade setup (move ∷ moves) id row
  pub network : (a n : ℕ) (spec : NetworkSpec) (id : List ℕ) → kind_of setup.actions a ≡ Some (MakeNetwork n) → slice_get setup.declared.networks n ≡ Some spec
      → effect_of (move ∷ moves) (OfAction a) ≡ Some (Reply.Made id)
      → (effect_of moves (OfAction a) ≡ Some (Reply.Made id)) ⊎ (network_at new id ≡ Some (network_row id spec))
  pub volume : (a v : ℕ) (spec : VolumeSpec) → kind_of setup.actions a ≡ Some (MakeVolume v) → slice_get setup.declared.volumes v ≡ Some spec
      → effect_of (move ∷ moves) (OfAction a) ≡ Some Reply.Done → (effect_of moves (OfAction a) ≡ Some Reply.Done) ⊎ (has_volume new spec.name ≡ true)

pub goes_did : (setup : Setup) (moves : List Move) (engine : Engine) (entry : Entry) → Goes setup moves engine (Did entry) engine
goes_did setup moves engine entry = record {
  keeps = keeps_same engine engine refl;
  effects = λ a reply h. h;
  from = λ id row h. inl h;
  network = λ a n spec id k d h. inl h;
  volume = λ a v spec k d h. inl h;
}

pub goes_polled : (setup : Setup) (moves : List Move) (engine : Engine) (n : ℕ) (id : List ℕ) (reply : Reply)
    → Goes setup moves engine (Took (OfPoll n) (Request.Inspect id) reply) engine
goes_polled setup moves engine n id reply = record {
  keeps = keeps_same engine engine refl;
  effects = λ a r h. h;
  from = λ i row h. inl h;
  network = λ a n spec i k d h. inl h;
  volume = λ a v spec k d h. inl h;
}

pub goes_itself : (setup : Setup) (moves : List Move) (old new : Engine) → ChangesItself old new → Goes setup moves old Changed new
goes_itself setup moves old new c = record {
  keeps = keeps_itself old new c;
  effects = λ a reply h. h;
  from = λ id row h. inl (sym (c.changes.networks id) ∙ h);
  network = λ a n spec id k d h. inl h;
  volume = λ a v spec k d h. inl h;
}

-- a run's actions are its plan's
pub plan_of : (aim : Aim) (setup : Setup) (first last : Engine) (moves : List Move) → IsRunning aim setup first moves last → CarriesOut (basis_of aim setup) setup.actions
plan_of aim setup first last moves run = carries (basis_of aim setup) setup.actions run.plan

-- the effect of an action
module _ (aim : Aim) (setup : Setup) (first : Engine) (a : ℕ) (request : Request) (reply : Reply) (moves : List Move) (old new : Engine)
    (run : IsRunning aim setup first moves old) (effect : IsEffect setup moves a request reply old new) where
  of_its_kind : IsOfKind setup effect.asks.kind request
  of_its_kind = of_kind setup effect.asks.tail effect.asks.kind request effect.asks.request_is

  pub effect_spares : Spares old new request reply
  effect_spares = answer_spares old new request reply
      (wanted_sparing (basis_of aim setup) setup effect.asks.kind request run.up
      ((plan_of aim setup first old moves run).wanted a effect.asks.kind effect.asks.kind_is) of_its_kind) effect.answers

  requests : (kind : ActionKind) → kind_of setup.actions a ≡ Some kind → request_of setup effect.asks.tail kind ≡ Some request
  requests kind k =
      let some : Some effect.asks.kind ≡ Some kind = sym effect.asks.kind_is ∙ k in
      let same : effect.asks.kind ≡ kind = cc some in
      subst (λ (x : ActionKind). request_of setup effect.asks.tail x ≡ Some request) same effect.asks.request_is

  from_old : (id : List ℕ) (row : NetRow) → network_at new id ≡ Some row → (network_at old id ≡ Some row) ⊎ IsMade setup (Took (OfAction a) request reply ∷ moves) id row
  from_old id row h = at effect_spares.networks
    where
      at : SameNetworks old new ⊎ MakesNetwork old new request reply → (network_at old id ≡ Some row) ⊎ IsMade setup (Took (OfAction a) request reply ∷ moves) id row
      at (inl same) = inl (sym (same id) ∙ h)
      at (inr makes) = on (bytes_eq makes.id id) refl (sym (makes.puts id) ∙ h)
        where
          on : (t : Bool) → bytes_eq makes.id id ≡ t → (if t then Some (network_row makes.id makes.spec) else network_at old id) ≡ Some row
              → (network_at old id ≡ Some row) ⊎ IsMade setup (Took (OfAction a) request reply ∷ moves) id row
          on false e f = inl f
          on true e f =
              let one : makes.id ≡ id = (bytes_eq-Decides makes.id id).0 e in
              let by = network_kind setup effect.asks.kind makes.spec (subst (λ (q : Request). IsOfKind setup effect.asks.kind q) makes.asked of_its_kind) in
              let same : network_row makes.id makes.spec ≡ row = cc f in
              inr (record {
                action = a;
                place = by.0;
                network = makes.spec;
                kind = effect.asks.kind_is ∙ ap (λ (x : ActionKind). Some x) by.1;
                declares = by.2;
                effect = effect_here moves a request reply ∙ ap (λ (r : Reply). Some r) (makes.told ∙ ap (λ (i : List ℕ). Reply.Made i) one);
                is = sym same ∙ ap (λ (i : List ℕ). network_row i makes.spec) one;
              })

  makes_network : (b n : ℕ) (spec : NetworkSpec) (id : List ℕ) → kind_of setup.actions b ≡ Some (MakeNetwork n) → slice_get setup.declared.networks n ≡ Some spec
      → effect_of (Took (OfAction a) request reply ∷ moves) (OfAction b) ≡ Some (Reply.Made id)
      → (effect_of moves (OfAction b) ≡ Some (Reply.Made id)) ⊎ (network_at new id ≡ Some (network_row id spec))
  makes_network b n spec id k d h = at (effect_new moves a b request reply (Reply.Made id) h)
    where
      at : ((a ≡ b) × (reply ≡ Reply.Made id)) ⊎ (effect_of moves (OfAction b) ≡ Some (Reply.Made id))
          → (effect_of moves (OfAction b) ≡ Some (Reply.Made id)) ⊎ (network_at new id ≡ Some (network_row id spec))
      at (inr f) = inl f
      at (inl told) =
          let e = requests (MakeNetwork n) (ap (kind_of setup.actions) told.0 ∙ k) in
          let f : Some (Request.MakeNetwork spec) ≡ Some request = rw d at e in
          let asks : Request.MakeNetwork spec ≡ request = cc f in
          let made : Answers old (Request.MakeNetwork spec) (Reply.Made id) new =
          subst (λ (q : Request). Answers old q (Reply.Made id) new) (sym asks) (subst (λ (x : Reply). Answers old request x new) told.1 effect.answers) in
          inr (made.1.networks id ∙ rw (same_text id) refl)

  makes_volume : (b v : ℕ) (spec : VolumeSpec) → kind_of setup.actions b ≡ Some (MakeVolume v) → slice_get setup.declared.volumes v ≡ Some spec
      → effect_of (Took (OfAction a) request reply ∷ moves) (OfAction b) ≡ Some Reply.Done
      → (effect_of moves (OfAction b) ≡ Some Reply.Done) ⊎ (has_volume new spec.name ≡ true)
  makes_volume b v spec k d h = at (effect_new moves a b request reply Reply.Done h)
    where
      at : ((a ≡ b) × (reply ≡ Reply.Done)) ⊎ (effect_of moves (OfAction b) ≡ Some Reply.Done)
          → (effect_of moves (OfAction b) ≡ Some Reply.Done) ⊎ (has_volume new spec.name ≡ true)
      at (inr f) = inl f
      at (inl told) =
          let e = requests (MakeVolume v) (ap (kind_of setup.actions) told.0 ∙ k) in
          let f : Some (Request.MakeVolume spec) ≡ Some request = rw d at e in
          let asks : Request.MakeVolume spec ≡ request = cc f in
          let made : Answers old (Request.MakeVolume spec) Reply.Done new =
          subst (λ (q : Request). Answers old q Reply.Done new) (sym asks) (subst (λ (x : Reply). Answers old request x new) told.1 effect.answers) in
          inr (made.volumes spec.name ∙ rw (same_text spec.name) refl)

  pub goes_acted : Goes setup moves old (Took (OfAction a) request reply) new
  goes_acted = record {
    keeps = keeps_of old new request reply effect_spares;
    effects = λ b r h. effect_kept moves a b request reply r effect.none_yet h;
    from = from_old;
    network = makes_network;
    volume = makes_volume;
  }

module _ (setup : Setup) (moves : List Move) (old : Engine) (move : Move) (new : Engine) (goes : Goes setup moves old move new) where
  made_later : (id : List ℕ) (row : NetRow) → IsMade setup moves id row → IsMade setup (move ∷ moves) id row
  made_later id row m = record {
    action = m.action;
    place = m.place;
    network = m.network;
    kind = m.kind;
    declares = m.declares;
    effect = goes.effects m.action (Reply.Made id) m.effect;
    is = m.is;
  }

  networks_later : HasNetworks setup moves old → HasNetworks setup (move ∷ moves) new
  networks_later has = record { kept = λ row m. goes.keeps.networks row.id row (has.kept row m); made = made; from = λ id row h. from id row (goes.from id row h) }
    where
      made : (a n : ℕ) (network : NetworkSpec) (id : List ℕ) → kind_of setup.actions a ≡ Some (MakeNetwork n) → slice_get setup.declared.networks n ≡ Some network
          → effect_of (move ∷ moves) (OfAction a) ≡ Some (Reply.Made id) → network_at new id ≡ Some (network_row id network)
      made a n network id k d e = at (goes.network a n network id k d e)
        where
          at : (effect_of moves (OfAction a) ≡ Some (Reply.Made id)) ⊎ (network_at new id ≡ Some (network_row id network)) → network_at new id ≡ Some (network_row id network)
          at (inl f) = goes.keeps.networks id (network_row id network) (has.made a n network id k d f)
          at (inr f) = f

      was : (id : List ℕ) (row : NetRow) → Among setup.seen.networks row ⊎ IsMade setup moves id row → Among setup.seen.networks row ⊎ IsMade setup (move ∷ moves) id row
      was id row (inl m) = inl m
      was id row (inr m) = inr (made_later id row m)

      from : (id : List ℕ) (row : NetRow) → (network_at old id ≡ Some row) ⊎ IsMade setup (move ∷ moves) id row → Among setup.seen.networks row ⊎ IsMade setup (move ∷ moves) id row
      from id row (inl h) = was id row (has.from id row h)
      from id row (inr m) = inr m

  volumes_later : HasVolumes setup moves old → HasVolumes setup (move ∷ moves) new
  volumes_later has = record { kept = λ name h. goes.keeps.volumes name (has.kept name h); made = made }
    where
      made : (a v : ℕ) (volume : VolumeSpec) → kind_of setup.actions a ≡ Some (MakeVolume v) → slice_get setup.declared.volumes v ≡ Some volume
          → effect_of (move ∷ moves) (OfAction a) ≡ Some Reply.Done → has_volume new volume.name ≡ true
      made a v volume k d e = at (goes.volume a v volume k d e)
        where
          at : (effect_of moves (OfAction a) ≡ Some Reply.Done) ⊎ (has_volume new volume.name ≡ true) → has_volume new volume.name ≡ true
          at (inl f) = goes.keeps.volumes volume.name (has.made a v volume k d f)
          at (inr f) = f

  pub resources_later : HasResources setup moves old → HasResources setup (move ∷ moves) new
  resources_later has = record {
    networks = networks has.networks;
    volumes = volumes has.volumes;
    images = λ slot m. let r = has.images slot m in (r.0, r.1, goes.keeps.images slot.image ∙ r.2);
    sound = has.sound;
  }
    where
      networks : (setup.declared.networks ≡ []) ⊎ HasNetworks setup moves old → (setup.declared.networks ≡ []) ⊎ HasNetworks setup (move ∷ moves) new
      networks (inl none) = inl none
      networks (inr some) = inr (networks_later some)

      volumes : (setup.declared.volumes ≡ []) ⊎ HasVolumes setup moves old → (setup.declared.volumes ≡ []) ⊎ HasVolumes setup (move ∷ moves) new
      volumes (inl none) = inl none
      volumes (inr some) = inr (volumes_later some)

-- where the observation ends, the Engine has what was seen for `up`
pub at_seen : (setup : Setup) (observation : Observed) (moves : List Move) (engine : Engine) → IsSightOf setup.declared Purpose.Up setup.seen engine
    → ((a : ℕ) → effect_of moves (OfAction a) ≡ None) → HasResources setup (Did (Entry.Seen observation) ∷ moves) engine
at_seen setup observation moves engine sight none = record {
  networks = networks sight.networks;
  volumes = volumes sight.volumes;
  images = sight.images refl;
  sound = sight.sound;
}
  where
    never : (X : Type 0) (a : ℕ) (reply : Reply) → effect_of moves (OfAction a) ≡ Some reply → X
    never X a reply e = let bad : None ≡ Some reply = sym (none a) ∙ e in absurd (cc bad)

    networks : (setup.declared.networks ≡ []) ⊎ ListsNetworks engine setup.seen.networks
        → (setup.declared.networks ≡ []) ⊎ HasNetworks setup (Did (Entry.Seen observation) ∷ moves) engine
    networks (inl empty) = inl empty
    networks (inr lists) = inr (record {
      kept = lists.shown;
      made = λ a n network id k d e. never _ a (Reply.Made id) e;
      from = λ id row h. inl (lists.all id row h);
    })

    volumes : (setup.declared.volumes ≡ []) ⊎ ListsVolumes engine setup.seen.volumes
        → (setup.declared.volumes ≡ []) ⊎ HasVolumes setup (Did (Entry.Seen observation) ∷ moves) engine
    volumes (inl empty) = inl empty
    volumes (inr lists) = inr (record { kept = λ name h. sym (lists.same name) ∙ h; made = λ a v volume k d e. never _ a Reply.Done e })
