-- The requests of an action and of a poll over a look-up, whoever brings it.
use Rattle.std.specs.Prelude.{◌≡◌, ℕ, List, Option, Some, None, slice_get, option_map, option_and_then}
use Rattle.engine_types.specs.declared.ActionKind.{ActionKind}
use Rattle.engine_types.specs.declared.ActionKind.TheVariants.{MakeVolume, MakeNetwork, StopContainer, RemoveContainer, CreateSlot, ConnectSlot, StopKept, StartSlot, RemoveNetwork, RemoveVolume}
use Rattle.engine_types.specs.declared.Attach.{Attach}
use Rattle.engine_types.specs.declared.Entry.{Entry}
use Rattle.engine_types.specs.declared.Listed.{Listed}
use Rattle.engine_types.specs.declared.Request.{Request}
use Rattle.run_model.specs.Journals.{Setup, standing}
use Rattle.run_model.specs.Plans.{create_of, kept, make_of, slot_at}
use Rattle.run_model.specs.Requests.{made_id, seen_network_id, stop_seconds}

-- a look-up: the container that a slot keeps, how long the stop of the container at a place waits, the action that creates a
-- slot's container, the one that makes a network, and the id that an action was told
pub record Ids : Type 0 where
  pub kept_by : ℕ → Option Listed
  pub waits : ℕ → Option ℕ
  pub creator : ℕ → Option ℕ
  pub maker : ℕ → Option ℕ
  pub told : ℕ → Option (List ℕ)

-- what a journal tells, newest entry first
abbrev pub ids_of : Setup → List Entry → Ids
ids_of setup past = record {
  kept_by = λ s. kept setup.declared setup.seen s;
  waits = λ c. option_map (stop_seconds setup) (slice_get setup.seen.containers c);
  creator = λ s. create_of setup.actions s;
  maker = λ n. make_of setup.actions n;
  told = λ a. made_id (standing setup past a);
}

-- a look-up tells what a journal tells, at each container that was seen
pub record AreIdsOf (setup : Setup) (past : List Entry) (ids : Ids) : Type 0 where
  pub kept_by : (s : ℕ) → ids.kept_by s ≡ kept setup.declared setup.seen s
  pub waits : (c : ℕ) (row : Listed) → slice_get setup.seen.containers c ≡ Some row
      → ids.waits c ≡ Some (stop_seconds setup row)
  pub creator : (s : ℕ) → ids.creator s ≡ create_of setup.actions s
  pub maker : (n : ℕ) → ids.maker n ≡ make_of setup.actions n
  pub told : (a : ℕ) → ids.told a ≡ made_id (standing setup past a)

-- what the create of a slot's container was told
abbrev pub created_id : Ids → ℕ → Option (List ℕ)
created_id ids s = option_and_then (λ a. ids.told a) (ids.creator s)

-- the id of a slot's container: that of the kept one, or what its create was told
abbrev pub slot_id_by : Ids → ℕ → Option (List ℕ)
slot_id_by ids s = of (ids.kept_by s)
  where
    of : Option Listed → Option (List ℕ)
    of (Some row) = Some row.id
    of None = created_id ids s

-- the id of a declared network: what its make was told, or the one that was seen
abbrev pub network_id_by : Setup → Ids → ℕ → Option (List ℕ)
network_id_by setup ids n = of (ids.maker n)
  where
    of : Option ℕ → Option (List ℕ)
    of (Some a) = ids.told a
    of None =
        option_and_then (λ network. seen_network_id setup network.name)
        (slice_get setup.declared.networks n)

-- the connect of a slot's container to the network of one of its attaches
abbrev pub connect_by : Setup → Ids → ℕ → Attach → Option Request
connect_by setup ids s attach = option_and_then
    (λ network. option_map (λ id. Request.Connect network id attach.aliases)
    (slot_id_by ids s)) (network_id_by setup ids attach.network)

-- the request of an action of this kind
abbrev pub request_by : Setup → Ids → ActionKind → Option Request
request_by setup ids (MakeVolume v) =
    option_map (λ spec. Request.MakeVolume spec) (slice_get setup.declared.volumes v)
request_by setup ids (MakeNetwork n) =
    option_map (λ spec. Request.MakeNetwork spec) (slice_get setup.declared.networks n)
request_by setup ids (StopContainer c) =
    option_and_then (λ row. option_map (λ n. Request.Stop row.id n) (ids.waits c))
    (slice_get setup.seen.containers c)
request_by setup ids (RemoveContainer c) =
    option_map (λ row. Request.Remove row.id) (slice_get setup.seen.containers c)
request_by setup ids (CreateSlot s) =
    option_map (λ slot. Request.Create slot.name slot.spec) (slot_at setup.declared s)
request_by setup ids (ConnectSlot s k) =
    option_and_then (λ slot. option_and_then (connect_by setup ids s) (slice_get slot.attach k))
    (slot_at setup.declared s)
request_by setup ids (StopKept s) =
    option_and_then (λ slot. option_map (λ row. Request.Stop row.id slot.stop_seconds)
    (ids.kept_by s)) (slot_at setup.declared s)
request_by setup ids (StartSlot s) = option_map (λ id. Request.Start id) (slot_id_by ids s)
request_by setup ids (RemoveNetwork n) =
    option_map (λ id. Request.RemoveNetwork id) (network_id_by setup ids n)
request_by setup ids (RemoveVolume v) =
    option_map (λ spec. Request.RemoveVolume spec.name) (slice_get setup.declared.volumes v)

-- the request of a poll: the Engine is asked for the state of the slot's container
abbrev pub poll_by : Ids → ℕ → Option Request
poll_by ids s = option_map (λ id. Request.Inspect id) (slot_id_by ids s)
