-- What the actions of a plan of `down` ask for, and what is left after an answer.
use Rattle.std.proofs.Common.{◌≡◌, ℕ, Bool, true, false, List, Option, Some, None, refl, sym, ap, ◌∙◌, subst}
use Rattle.std.specs.Prelude.{if◌then◌else◌}
use Rattle.std.specs.Str.{bytes_eq}
use Rattle.engine_types.specs.declared.ActionKind.{ActionKind}
use Rattle.engine_types.specs.declared.ActionKind.TheVariants.{MakeVolume, MakeNetwork, StopContainer, RemoveContainer, CreateSlot, ConnectSlot, StopKept, StartSlot, RemoveNetwork, RemoveVolume}
use Rattle.engine_types.specs.declared.ContainerRow.{ContainerRow}
use Rattle.engine_types.specs.declared.Engine.{Engine}
use Rattle.engine_types.specs.declared.NetRow.{NetRow}
use Rattle.engine_types.specs.declared.Reply.{Reply}
use Rattle.engine_types.specs.declared.Request.{Request}
use Rattle.run_model.specs.EngineRules.{Answers, ChangesItself, PutsNetwork, PutsVolume, SameNetworks, SameVolumes, container_at, has_volume, network_at}
use Rattle.run_model.specs.Journals.{Setup}
use Rattle.run_model.specs.Observation.{is_up}
use Rattle.run_model.specs.Plans.{Basis, is_wanted}
use Rattle.world_laws.proofs.ActionRequests.{IsOfKind}
use Rattle.world_laws.proofs.Bodies.{AlikeAt, itself_keeps, turn}
use Rattle.world_laws.proofs.Turns.{Came, Made, Stayed, came_from}

-- whether a request stops or removes
abbrev pub is_taking_down : Request → Bool
is_taking_down (Request.Stop id seconds) = true
is_taking_down (Request.Remove id) = true
is_taking_down (Request.RemoveNetwork id) = true
is_taking_down (Request.RemoveVolume name) = true
is_taking_down _ = false

-- an action that a plan of `down` wants asks for such a request
pub wanted_taking_down : (basis : Basis) (setup : Setup) (kind : ActionKind) (request : Request) → is_up basis.aim.purpose ≡ false → is_wanted basis kind ≡ true
    → IsOfKind setup kind request → is_taking_down request ≡ true
wanted_taking_down basis setup (StopContainer c) (Request.Stop id seconds) down w h = refl
wanted_taking_down basis setup (RemoveContainer c) (Request.Remove id) down w h = refl
wanted_taking_down basis setup (RemoveNetwork n) (Request.RemoveNetwork id) down w h = refl
wanted_taking_down basis setup (RemoveVolume v) (Request.RemoveVolume name) down w h = refl
wanted_taking_down basis setup (MakeVolume v) request down w h = let bad : false ≡ true = rw down at w in absurd (cc bad)
wanted_taking_down basis setup (MakeNetwork n) request down w h = let bad : false ≡ true = rw down at w in absurd (cc bad)
wanted_taking_down basis setup (CreateSlot s) request down w h = let bad : false ≡ true = rw down at w in absurd (cc bad)
wanted_taking_down basis setup (ConnectSlot s k) request down w h = let bad : false ≡ true = rw down at w in absurd (cc bad)
wanted_taking_down basis setup (StopKept s) request down w h = let bad : false ≡ true = rw down at w in absurd (cc bad)
wanted_taking_down basis setup (StartSlot s) request down w h = let bad : false ≡ true = rw down at w in absurd (cc bad)
wanted_taking_down basis setup _ _ down w h = absurd h

-- each container that is there was there before, with the same labels
abbrev pub ContainersFrom : Engine → Engine → Type 0
ContainersFrom old new = (id : List ℕ) (row : ContainerRow) → container_at new id ≡ Some row
    → (was : ContainerRow) × (container_at old id ≡ Some was) × (row.labels ≡ was.labels)

-- each network that is there was there before
abbrev pub NetworksFrom : Engine → Engine → Type 0
NetworksFrom old new = (id : List ℕ) (row : NetRow) → network_at new id ≡ Some row → network_at old id ≡ Some row

-- each volume that is there was there before
abbrev pub VolumesFrom : Engine → Engine → Type 0
VolumesFrom old new = (name : List ℕ) → has_volume new name ≡ true → has_volume old name ≡ true

-- nothing has come
pub record IsLess (old new : Engine) : Type 0 where
  pub containers : ContainersFrom old new
  pub networks : NetworksFrom old new
  pub volumes : VolumesFrom old new

pub less_none : (engine : Engine) → IsLess engine engine
less_none engine = record { containers = λ id row e. (row, e, refl); networks = λ id row e. e; volumes = λ name e. e }

pub less_on : (first mid last : Engine) → IsLess first mid → IsLess mid last → IsLess first last
less_on first mid last l m = record {
  containers = λ id row e. let x = m.containers id row e in let y = l.containers id x.0 x.1 in (y.0, y.1, x.2 ∙ y.2);
  networks = λ id row e. l.networks id row (m.networks id row e);
  volumes = λ name e. l.volumes name (m.volumes name e);
}

module _ (old new : Engine) where
  -- what wasn't there isn't there
  pub no_container : ContainersFrom old new → (id : List ℕ) → container_at old id ≡ None → container_at new id ≡ None
  no_container from id none = at (container_at new id) refl
    where
      at : (o : Option ContainerRow) → container_at new id ≡ o → container_at new id ≡ None
      at None e = e
      at (Some row) e = let x = from id row e in let bad : None ≡ Some x.0 = sym none ∙ x.1 in absurd (cc bad)

  pub no_network : NetworksFrom old new → (id : List ℕ) → network_at old id ≡ None → network_at new id ≡ None
  no_network from id none = at (network_at new id) refl
    where
      at : (o : Option NetRow) → network_at new id ≡ o → network_at new id ≡ None
      at None e = e
      at (Some row) e = let bad : None ≡ Some row = sym none ∙ from id row e in absurd (cc bad)

  pub no_volume : VolumesFrom old new → (name : List ℕ) → has_volume old name ≡ false → has_volume new name ≡ false
  no_volume from name none = at (has_volume new name) refl
    where
      at : (t : Bool) → has_volume new name ≡ t → has_volume new name ≡ false
      at false e = e
      at true e = let bad : false ≡ true = sym none ∙ from name e in absurd (cc bad)

  same_networks : SameNetworks old new → NetworksFrom old new
  same_networks same id row e = sym (same id) ∙ e

  same_volumes : SameVolumes old new → VolumesFrom old new
  same_volumes same name e = sym (same name) ∙ e

  network_gone : (id : List ℕ) → PutsNetwork old new id None → NetworksFrom old new
  network_gone id puts i row e = at (bytes_eq id i) (sym (puts i) ∙ e)
    where
      at : (t : Bool) → (if t then None else network_at old i) ≡ Some row → network_at old i ≡ Some row
      at true f = absurd (cc f)
      at false f = f

  volume_gone : (name : List ℕ) → PutsVolume old new name false → VolumesFrom old new
  volume_gone name puts n e = at (bytes_eq name n) (sym (puts n) ∙ e)
    where
      at : (t : Bool) → (if t then false else has_volume old n) ≡ true → has_volume old n ≡ true
      at true f = absurd (cc f)
      at false f = f

  nothing_else : new ≡ old → NetworksFrom old new × VolumesFrom old new
  nothing_else e = (same_networks (λ id. ap (λ (x : Engine). network_at x id) e), same_volumes (λ name. ap (λ (x : Engine). has_volume x name) e))

  resources_from : (request : Request) (reply : Reply) → is_taking_down request ≡ true → Answers old request reply new → NetworksFrom old new × VolumesFrom old new
  resources_from request (Reply.Refused status message) e h = nothing_else h
  resources_from (Request.Stop id seconds) Reply.Done e h = (same_networks h.changes.networks, same_volumes h.changes.volumes)
  resources_from (Request.Stop id seconds) Reply.Already e h = nothing_else h.same
  resources_from (Request.Remove id) Reply.Done e h = (same_networks h.changes.networks, same_volumes h.changes.volumes)
  resources_from (Request.RemoveNetwork id) Reply.Done e h = (network_gone id h.2.networks, same_volumes h.2.volumes)
  resources_from (Request.RemoveVolume name) Reply.Done e h = (same_networks h.2.networks, volume_gone name h.2.volumes)
  resources_from (Request.Stop id seconds) _ e h = absurd h
  resources_from (Request.Remove id) _ e h = absurd h
  resources_from (Request.RemoveNetwork id) _ e h = absurd h
  resources_from (Request.RemoveVolume name) _ e h = absurd h
  resources_from _ _ e h = absurd (cc e)

  containers_from : (request : Request) (reply : Reply) → is_taking_down request ≡ true → Answers old request reply new → ContainersFrom old new
  containers_from request reply e h id row there = at (came_from old request reply new id row (turn old request reply new h) there)
    where
      at : Came old request reply new id row → (was : ContainerRow) × (container_at old id ≡ Some was) × (row.labels ≡ was.labels)
      at (Stayed was was_there alike apart) = (was, was_there, alike.labels)
      at (Made name spec q r c l) = let bad : false ≡ true = rw q at e in absurd (cc bad)

  -- nothing comes by an answer to such a request, nor by an own change
  pub answer_less : (request : Request) (reply : Reply) → is_taking_down request ≡ true → Answers old request reply new → IsLess old new
  answer_less request reply e h =
      let r = resources_from request reply e h in
      record { containers = containers_from request reply e h; networks = r.0; volumes = r.1 }

  pub itself_less : ChangesItself old new → IsLess old new
  itself_less c = record { containers = was_there; networks = same_networks c.changes.networks; volumes = same_volumes c.changes.volumes }
    where
      at : (row : ContainerRow) (o : Option ContainerRow) → AlikeAt o (Some row) → (was : ContainerRow) × (o ≡ Some was) × (row.labels ≡ was.labels)
      at row None a = absurd a
      at row (Some was) a = (was, refl, a.labels)

      was_there : ContainersFrom old new
      was_there id row e = at row (container_at old id) (subst (λ (o : Option ContainerRow). AlikeAt (container_at old id) o) e (itself_keeps old new c id))
