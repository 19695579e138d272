-- What the actions of a run of `down` have removed isn't there any more, and nothing has come.
use Rattle.std.proofs.Common.{◌≡◌, ◌⊎◌, ℕ, true, false, List, [], ◌∷◌, Option, Some, None, slice_get, refl, sym, ap, ◌∙◌, subst, inl, inr}
use Rattle.std.specs.Prelude.{option_and_then, option_map}
use Rattle.engine_types.specs.declared.Action.{Action}
use Rattle.engine_types.specs.declared.ActionKind.{ActionKind}
use Rattle.engine_types.specs.declared.ActionKind.TheVariants.{MakeVolume, MakeNetwork, StopContainer, RemoveContainer, CreateSlot, ConnectSlot, StopKept, StartSlot, RemoveNetwork, RemoveVolume}
use Rattle.engine_types.specs.declared.Aim.{Aim}
use Rattle.engine_types.specs.declared.Engine.{Engine}
use Rattle.engine_types.specs.declared.Entry.{Entry}
use Rattle.engine_types.specs.declared.Listed.{Listed}
use Rattle.engine_types.specs.declared.NetworkSpec.{NetworkSpec}
use Rattle.engine_types.specs.declared.Observed.{Observed}
use Rattle.engine_types.specs.declared.Reply.{Reply}
use Rattle.engine_types.specs.declared.Request.{Request}
use Rattle.engine_types.specs.declared.VolumeSpec.{VolumeSpec}
use Rattle.run_model.specs.EngineRules.{Answers, container_at, has_volume, network_at}
use Rattle.run_model.specs.Journals.{Setup}
use Rattle.run_model.specs.Legal.{IsLegal}
use Rattle.run_model.specs.Observation.{is_up}
use Rattle.run_model.specs.Plans.{CarriesOut, is_make_of, kind_of, make_of}
use Rattle.run_model.specs.Requests.{OfAction, request_of, seen_network_id}
use Rattle.run_model.specs.Numbers.{places}
use Rattle.run_model.specs.Worlds.{Did, Move, Took, entries_of}
use Rattle.run_model.proofs.LegalLaws.{found_passes}
use Rattle.run_model.proofs.RequestLemmas.{same_text}
use Rattle.run_model.proofs.RollLaws.{carries}
use Rattle.run_requests.proofs.Replies.{finds_make}
use Rattle.world_laws.specs.Sights.{IsSightOf}
use Rattle.world_laws.proofs.ActionRequests.{of_kind}
use Rattle.world_laws.proofs.Along.{IsCarried, IsEffect, carried_along}
use Rattle.world_laws.proofs.Effects.{effect_new}
use Rattle.world_laws.proofs.Finished.{IsUnderWay, basis_of}
use Rattle.world_laws.proofs.Held.{effects}
use Rattle.world_laws.proofs.Sights.{seen_is_there}
use Rattle.world_laws.proofs.TakingDown.{IsLess, answer_less, itself_less, less_none, less_on, no_container, no_network, no_volume, wanted_taking_down}

-- what an action removes isn't there: a container of the id that was seen, a network of the id that was seen of its name, and a volume of its name
abbrev pub IsWithout : Setup → Engine → ActionKind → Type 0
IsWithout setup engine (RemoveContainer c) = (listed : Listed) → slice_get setup.seen.containers c ≡ Some listed → container_at engine listed.id ≡ None
IsWithout setup engine (RemoveNetwork n) = (network : NetworkSpec) (id : List ℕ) → slice_get setup.declared.networks n ≡ Some network
    → seen_network_id setup network.name ≡ Some id → network_at engine id ≡ None
IsWithout setup engine (RemoveVolume v) = (volume : VolumeSpec) → slice_get setup.declared.volumes v ≡ Some volume → has_volume engine volume.name ≡ false
IsWithout setup engine _ = Unit {0}

-- what is gone stays so where nothing comes
without_later : (setup : Setup) (old new : Engine) (kind : ActionKind) → IsLess old new → IsWithout setup old kind → IsWithout setup new kind
without_later setup old new (RemoveContainer c) less w = λ listed l. no_container old new less.containers listed.id (w listed l)
without_later setup old new (RemoveNetwork n) less w = λ network id d s. no_network old new less.networks id (w network id d s)
without_later setup old new (RemoveVolume v) less w = λ volume d. no_volume old new less.volumes volume.name (w volume d)
without_later setup old new (MakeVolume v) less w = tt
without_later setup old new (MakeNetwork n) less w = tt
without_later setup old new (StopContainer c) less w = tt
without_later setup old new (CreateSlot s) less w = tt
without_later setup old new (ConnectSlot s k) less w = tt
without_later setup old new (StopKept s) less w = tt
without_later setup old new (StartSlot s) less w = tt

-- what was done is gone, where the plan makes no network
module _ (setup : Setup) (tail : List Entry) (request : Request) (old new : Engine) (unmade : (n : ℕ) → make_of setup.actions n ≡ None) (answers : Answers old request Reply.Done new) where
  container_gone : (c : ℕ) → request_of setup tail (RemoveContainer c) ≡ Some request → IsWithout setup new (RemoveContainer c)
  container_gone c e listed l =
      let asks : Some (Request.Remove listed.id) ≡ Some request = rw l at e in
      let is : Request.Remove listed.id ≡ request = cc asks in
      let gone : Answers old (Request.Remove listed.id) Reply.Done new = subst (λ (q : Request). Answers old q Reply.Done new) (sym is) answers in
      gone.changes.containers listed.id ∙ rw (same_text listed.id) refl

  network_gone : (n : ℕ) → request_of setup tail (RemoveNetwork n) ≡ Some request → IsWithout setup new (RemoveNetwork n)
  network_gone n e network id d s =
      let f : option_map (λ (i : List ℕ). Request.RemoveNetwork i) (option_and_then (λ (spec : NetworkSpec). seen_network_id setup spec.name) (slice_get setup.declared.networks n)) ≡ Some request
      = rw (unmade n) at e in
      let asks : Some (Request.RemoveNetwork id) ≡ Some request = rw (d, s) at f in
      let is : Request.RemoveNetwork id ≡ request = cc asks in
      let gone : Answers old (Request.RemoveNetwork id) Reply.Done new = subst (λ (q : Request). Answers old q Reply.Done new) (sym is) answers in
      gone.2.networks id ∙ rw (same_text id) refl

  volume_gone : (v : ℕ) → request_of setup tail (RemoveVolume v) ≡ Some request → IsWithout setup new (RemoveVolume v)
  volume_gone v e volume d =
      let asks : Some (Request.RemoveVolume volume.name) ≡ Some request = rw d at e in
      let is : Request.RemoveVolume volume.name ≡ request = cc asks in
      let gone : Answers old (Request.RemoveVolume volume.name) Reply.Done new = subst (λ (q : Request). Answers old q Reply.Done new) (sym is) answers in
      gone.2.volumes volume.name ∙ rw (same_text volume.name) refl

  without_now : (kind : ActionKind) → request_of setup tail kind ≡ Some request → IsWithout setup new kind
  without_now (RemoveContainer c) e = container_gone c e
  without_now (RemoveNetwork n) e = network_gone n e
  without_now (RemoveVolume v) e = volume_gone v e
  without_now (MakeVolume v) e = tt
  without_now (MakeNetwork n) e = tt
  without_now (StopContainer c) e = tt
  without_now (CreateSlot s) e = tt
  without_now (ConnectSlot s k) e = tt
  without_now (StopKept s) e = tt
  without_now (StartSlot s) e = tt

-- what there is in the course of a run of `down`: no more than where its observation ended, and nothing that an action has removed
pub record HasLess (aim : Aim) (setup : Setup) (effect : ℕ → Option Reply) (engine : Engine) : Type 0 where
  pub start : Engine
  pub sight : IsSightOf setup.declared aim.purpose setup.seen start
  pub less : IsLess start engine
  pub without : (a : ℕ) (kind : ActionKind) → kind_of setup.actions a ≡ Some kind → effect a ≡ Some Reply.Done → IsWithout setup engine kind

module _ (aim : Aim) (setup : Setup) (first : Engine) (down : is_up aim.purpose ≡ false) where
  pub plan_of : (moves : List Move) (engine : Engine) → IsUnderWay aim setup first moves engine → CarriesOut (basis_of aim setup) setup.actions
  plan_of moves engine way = carries (basis_of aim setup) setup.actions way.plan

  -- a plan of `down` makes no network
  unmade : CarriesOut (basis_of aim setup) setup.actions → (n : ℕ) → make_of setup.actions n ≡ None
  unmade plan n = at (make_of setup.actions n) refl
    where
      at : (o : Option ℕ) → make_of setup.actions n ≡ o → make_of setup.actions n ≡ None
      at None e = e
      at (Some a) e =
          let kind = finds_make n (kind_of setup.actions a) (found_passes (λ (b : ℕ). is_make_of n (kind_of setup.actions b)) (places setup.actions) a e) in
          let wanted = plan.wanted a (MakeNetwork n) kind in
          let bad : false ≡ true = rw down at wanted in absurd (cc bad)

  -- an action of `down` takes away
  less_acted : (a : ℕ) (request : Request) (reply : Reply) (moves : List Move) (old new : Engine) → IsUnderWay aim setup first moves old
      → IsEffect setup moves a request reply old new → HasLess aim setup (effects moves) old → HasLess aim setup (effects (Took (OfAction a) request reply ∷ moves)) new
  less_acted a request reply moves old new way effect has = record {
    start = has.start;
    sight = has.sight;
    less = less_on has.start old new has.less now;
    without = λ b kind k e. without b kind k (effect_new moves a b request reply Reply.Done e);
  }
    where
      plan : CarriesOut (basis_of aim setup) setup.actions
      plan = plan_of moves old way

      now : IsLess old new
      now = answer_less old new request reply
          (wanted_taking_down (basis_of aim setup) setup effect.asks.kind request down (plan.wanted a effect.asks.kind effect.asks.kind_is)
          (of_kind setup effect.asks.tail effect.asks.kind request effect.asks.request_is)) effect.answers

      without : (b : ℕ) (kind : ActionKind) → kind_of setup.actions b ≡ Some kind → ((a ≡ b) × (reply ≡ Reply.Done)) ⊎ (effects moves b ≡ Some Reply.Done)
          → IsWithout setup new kind
      without b kind k (inr e) = without_later setup old new kind now (has.without b kind k e)
      without b kind k (inl told) =
          let kinds : Some effect.asks.kind ≡ Some kind = sym effect.asks.kind_is ∙ ap (kind_of setup.actions) told.0 ∙ k in
          let same : effect.asks.kind ≡ kind = cc kinds in
          without_now setup effect.asks.tail request old new (unmade plan) (subst (λ (r : Reply). Answers old request r new) told.1 effect.answers) kind
          (subst (λ (x : ActionKind). request_of setup effect.asks.tail x ≡ Some request) same effect.asks.request_is)

  begins : (observation : Observed) (moves : List Move) (engine : Engine) → IsUnderWay aim setup first (Did (Entry.Seen observation) ∷ moves) engine
      → entries_of moves ≡ [] → ((a : ℕ) → effects moves a ≡ None) → HasLess aim setup (effects moves) engine
  begins observation moves engine way empty none =
      let legal : IsLegal aim setup (Entry.Seen observation ∷ []) = rw empty at way.legal in
      record {
        start = engine;
        sight = seen_is_there aim setup first engine moves observation way.world empty legal way.saw;
        less = less_none engine;
        without = λ a kind k e. let bad : None ≡ Some Reply.Done = sym (none a) ∙ e in absurd (cc bad);
      }

  carried : IsCarried aim setup first (λ moves engine. HasLess aim setup (effects moves) engine)
  carried = record {
    begins = begins;
    notes = λ entry moves engine way has. has;
    acts = λ a request reply moves old new way effect has. less_acted a request reply moves old new way effect has;
    polls = λ n id reply moves engine way has. has;
    changes = λ moves old new way change has. record {
      start = has.start;
      sight = has.sight;
      less = less_on has.start old new has.less (itself_less old new change);
      without = λ a kind k e. without_later setup old new kind (itself_less old new change) (has.without a kind k e);
    };
  }

  pub has_less : (moves : List Move) (last : Engine) → IsUnderWay aim setup first moves last → HasLess aim setup (effects moves) last
  has_less moves last way = carried_along aim setup first (λ ms engine. HasLess aim setup (effects ms) engine) carried moves last way
