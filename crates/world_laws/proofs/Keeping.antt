-- What an Engine keeps of networks, volumes and images where nothing removes or pulls any.
use Rattle.std.proofs.Common.{◌≡◌, ◌⊎◌, ℕ, Bool, true, false, List, Option, Some, None, refl, sym, ap, ◌∙◌, inl, inr}
use Rattle.std.specs.Option.{option_map_or}
use Rattle.std.specs.Prelude.{if◌then◌else◌}
use Rattle.std.specs.Str.{bytes_eq}
use Rattle.std.proofs.lemmas.Slice.Eq.{bytes_eq-Decides}
use Rattle.engine_types.specs.declared.ContainerRow.{ContainerRow}
use Rattle.engine_types.specs.declared.Engine.{Engine}
use Rattle.engine_types.specs.declared.NetRow.{NetRow}
use Rattle.engine_types.specs.declared.NetworkSpec.{NetworkSpec}
use Rattle.engine_types.specs.declared.Reply.{Reply}
use Rattle.engine_types.specs.declared.Request.{Request}
use Rattle.run_model.specs.EngineRules.{Answers, ChangesContainer, ChangesItself, PutsNetwork, SameImages, SameNetworks, has_volume, image_at, network_at, network_has_name}

-- the network that is made by a request
abbrev pub network_row : List ℕ → NetworkSpec → NetRow
network_row id spec = record { id = id; name = spec.name; labels = spec.labels }

-- networks and volumes that are there stay there, and each name of an image stays as it is
pub record KeepsResources (old new : Engine) : Type 0 where
  pub networks : (id : List ℕ) (row : NetRow) → network_at old id ≡ Some row → network_at new id ≡ Some row
  pub volumes : (name : List ℕ) → has_volume old name ≡ true → has_volume new name ≡ true
  pub images : SameImages old new

-- a network that the Engine was asked for is made, under an id that was free
pub record MakesNetwork (old new : Engine) (request : Request) (reply : Reply) : Type 0 where
  pub spec : NetworkSpec
  pub id : List ℕ
  pub asked : request ≡ Request.MakeNetwork spec
  pub told : reply ≡ Reply.Made id
  pub fresh : network_at old id ≡ None
  pub puts : PutsNetwork old new id (Some (network_row id spec))

-- what an answer changes that removes and pulls nothing
pub record Spares (old new : Engine) (request : Request) (reply : Reply) : Type 0 where
  pub networks : SameNetworks old new ⊎ MakesNetwork old new request reply
  pub volumes : (name : List ℕ) → has_volume old name ≡ true → has_volume new name ≡ true
  pub images : SameImages old new

-- whether a request removes no network and no volume and pulls no image
abbrev pub is_sparing : Request → Bool
is_sparing (Request.RemoveNetwork id) = false
is_sparing (Request.RemoveVolume name) = false
is_sparing (Request.Pull name) = false
is_sparing _ = true

same_spares : (old new : Engine) (request : Request) (reply : Reply) → new ≡ old → Spares old new request reply
same_spares old new request reply e = record {
  networks = inl (λ i. ap (λ (engine : Engine). network_at engine i) e);
  volumes = λ name h. ap (λ (engine : Engine). has_volume engine name) e ∙ h;
  images = λ n. ap (λ (engine : Engine). image_at engine n) e;
}

container_spares : (old new : Engine) (request : Request) (reply : Reply) (id : List ℕ) (now : Option ContainerRow) → ChangesContainer old new id now → Spares old new request reply
container_spares old new request reply id now c = record { networks = inl c.networks; volumes = λ name h. c.volumes name ∙ h; images = c.images }

-- an answer to such a request spares what is there
pub answer_spares : (old new : Engine) (request : Request) (reply : Reply) → is_sparing request ≡ true → Answers old request reply new → Spares old new request reply
answer_spares old new request (Reply.Refused status message) e h = same_spares old new request (Reply.Refused status message) h
answer_spares old new (Request.ListContainers project) (Reply.Containers rows) e h = same_spares old new _ _ h.1
answer_spares old new (Request.Inspect id) (Reply.State report) e h = same_spares old new _ _ h.1
answer_spares old new (Request.Logs id) (Reply.Bytes bytes) e h = same_spares old new _ _ h.1
answer_spares old new (Request.Create name spec) (Reply.Made id) e h = container_spares old new _ _ _ _ h.changes
answer_spares old new (Request.Start id) Reply.Done e h = container_spares old new _ _ _ _ h.changes
answer_spares old new (Request.Start id) Reply.Already e h = same_spares old new _ _ h.same
answer_spares old new (Request.Stop id seconds) Reply.Done e h = container_spares old new _ _ _ _ h.changes
answer_spares old new (Request.Stop id seconds) Reply.Already e h = same_spares old new _ _ h.same
answer_spares old new (Request.Remove id) Reply.Done e h = container_spares old new _ _ _ _ h.changes
answer_spares old new Request.ListNetworks (Reply.Networks rows) e h = same_spares old new _ _ h.1
answer_spares old new (Request.MakeNetwork spec) (Reply.Made id) e h = record {
  networks = inr (record { spec = spec; id = id; asked = refl; told = refl; fresh = h.0; puts = h.1.networks });
  volumes = λ name k. h.1.volumes name ∙ k;
  images = h.1.images;
}
answer_spares old new (Request.Connect network container aliases) Reply.Done e h = container_spares old new _ _ _ _ h.changes
answer_spares old new Request.ListVolumes (Reply.Volumes names) e h = same_spares old new _ _ h.1
answer_spares old new (Request.MakeVolume spec) Reply.Done e h = record {
  networks = inl h.networks;
  volumes = λ name k. h.volumes name ∙ at (bytes_eq spec.name name) (has_volume old name) k;
  images = h.images;
}
  where
    at : (t x : Bool) → x ≡ true → (if t then true else x) ≡ true
    at true x k = refl
    at false x k = k
answer_spares old new (Request.Image name) (Reply.ImageId id) e h = same_spares old new _ _ h.1
answer_spares old new (Request.RemoveNetwork id) reply e h = absurd (cc e)
answer_spares old new (Request.RemoveVolume name) reply e h = absurd (cc e)
answer_spares old new (Request.Pull name) reply e h = absurd (cc e)
answer_spares old new _ _ e h = absurd h

-- a network that is there stays there where none is removed
pub keeps_of : (old new : Engine) (request : Request) (reply : Reply) → Spares old new request reply → KeepsResources old new
keeps_of old new request reply s = record { networks = at s.networks; volumes = s.volumes; images = s.images }
  where
    at : SameNetworks old new ⊎ MakesNetwork old new request reply → (id : List ℕ) (row : NetRow) → network_at old id ≡ Some row → network_at new id ≡ Some row
    at (inl same) id row h = same id ∙ h
    at (inr makes) id row h = makes.puts id ∙ on (bytes_eq makes.id id) refl
      where
        on : (t : Bool) → bytes_eq makes.id id ≡ t → (if t then Some (network_row makes.id makes.spec) else network_at old id) ≡ Some row
        on false e = h
        on true e =
            let one : makes.id ≡ id = (bytes_eq-Decides makes.id id).0 e in
            let bad : None ≡ Some row = sym makes.fresh ∙ ap (network_at old) one ∙ h in absurd (cc bad)

pub keeps_same : (old new : Engine) → new ≡ old → KeepsResources old new
keeps_same old new e = record {
  networks = λ id row h. ap (λ (engine : Engine). network_at engine id) e ∙ h;
  volumes = λ name h. ap (λ (engine : Engine). has_volume engine name) e ∙ h;
  images = λ n. ap (λ (engine : Engine). image_at engine n) e;
}

-- an own change keeps all but one container's report
pub keeps_itself : (old new : Engine) → ChangesItself old new → KeepsResources old new
keeps_itself old new c = record {
  networks = λ id row h. c.changes.networks id ∙ h;
  volumes = λ name h. c.changes.volumes name ∙ h;
  images = c.changes.images;
}

-- a network's name stays
pub named_stays : (old new : Engine) → KeepsResources old new → (name id : List ℕ) → network_has_name old name id ≡ true → network_has_name new name id ≡ true
named_stays old new keeps name id h = at (network_at old id) refl h
  where
    at : (o : Option NetRow) → network_at old id ≡ o → option_map_or (λ (row : NetRow). bytes_eq name row.name) o false ≡ true → network_has_name new name id ≡ true
    at None e k = absurd (cc k)
    at (Some row) e k = rw (keeps.networks id row e) k
