-- Over a look-up that tells what a journal tells, the requests of an action and of a poll are those that are defined for a run.
use Rattle.std.proofs.Common.{◌≡◌, ℕ, List, Option, Some, None, slice_get, refl, ap, ◌∙◌, subst}
use Rattle.std.specs.Prelude.{IfOk, Result, option_and_then, option_map}
use Rattle.engine_types.specs.declared.ActionKind.{ActionKind}
use Rattle.engine_types.specs.declared.ActionKind.TheVariants.{MakeVolume, MakeNetwork, StopContainer, RemoveContainer, CreateSlot, ConnectSlot, StopKept, StartSlot, RemoveNetwork, RemoveVolume}
use Rattle.engine_types.specs.declared.Attach.{Attach}
use Rattle.engine_types.specs.declared.Entry.{Entry}
use Rattle.engine_types.specs.declared.Listed.{Listed}
use Rattle.engine_types.specs.declared.Request.{Request}
use Rattle.engine_types.specs.declared.Slot.{Slot}
use Rattle.run_model.specs.Journals.{Setup, standing}
use Rattle.run_model.specs.Plans.{create_of, kept, kept_of, make_of, slot_at}
use Rattle.run_model.specs.Requests.{connect_request, made_id, network_id, poll_request, request_of, slot_id, stop_seconds}
use Rattle.run_requests.specs.Asking.{AreIdsOf, Ids, connect_by, created_id, ids_of, network_id_by, poll_by, request_by, slot_id_by}

-- a journal tells what it tells
pub own : (setup : Setup) (past : List Entry) → AreIdsOf setup past (ids_of setup past)
own setup past = record {
  kept_by = λ s. refl;
  waits = λ c row e. ap (option_map (stop_seconds setup)) e;
  creator = λ s. refl;
  maker = λ n. refl;
  told = λ a. refl;
}

module _ (setup : Setup) (past : List Entry) (ids : Ids) (are : AreIdsOf setup past ids) where
  created_is : (s : ℕ) → created_id ids s ≡ option_and_then (λ (a : ℕ). made_id (standing setup past a)) (create_of setup.actions s)
  created_is s = ap (option_and_then (λ (a : ℕ). ids.told a)) (are.creator s) ∙ at (create_of setup.actions s)
    where
      at : (o : Option ℕ) → option_and_then (λ (a : ℕ). ids.told a) o ≡ option_and_then (λ (a : ℕ). made_id (standing setup past a)) o
      at None = refl
      at (Some a) = are.told a

  slot_id_is : (s : ℕ) → slot_id_by ids s ≡ slot_id setup past s
  slot_id_is s = at (kept setup.declared setup.seen s) refl
    where
      at : (o : Option Listed) → kept setup.declared setup.seen s ≡ o → slot_id_by ids s ≡ slot_id setup past s
      at (Some row) e = let k = are.kept_by s in rw (k, e) refl
      at None e = let k = are.kept_by s in rw (k, e) (created_is s)

  network_id_is : (n : ℕ) → network_id_by setup ids n ≡ network_id setup past n
  network_id_is n = at (make_of setup.actions n) refl
    where
      at : (o : Option ℕ) → make_of setup.actions n ≡ o → network_id_by setup ids n ≡ network_id setup past n
      at (Some a) e = let m = are.maker n in rw (m, e) (are.told a)
      at None e = let m = are.maker n in rw (m, e) refl

  connect_is : (s : ℕ) (attach : Attach) → connect_by setup ids s attach ≡ connect_request setup past s attach
  connect_is s attach =
      ap (λ (o : Option (List ℕ)). option_and_then
      (λ (network : List ℕ). option_map (λ (id : List ℕ). Request.Connect network id attach.aliases) (slot_id_by ids s)) o)
      (network_id_is attach.network)
      ∙ ap (λ (o : Option (List ℕ)). option_and_then
      (λ (network : List ℕ). option_map (λ (id : List ℕ). Request.Connect network id attach.aliases) o) (network_id setup past attach.network))
      (slot_id_is s)

  by_attach : (s : ℕ) (o : Option Attach) → option_and_then (connect_by setup ids s) o ≡ option_and_then (connect_request setup past s) o
  by_attach s None = refl
  by_attach s (Some attach) = connect_is s attach

  by_slot : (s k : ℕ) (o : Option Slot) → option_and_then (λ slot. option_and_then (connect_by setup ids s) (slice_get slot.attach k)) o
      ≡ option_and_then (λ slot. option_and_then (connect_request setup past s) (slice_get slot.attach k)) o
  by_slot s k None = refl
  by_slot s k (Some slot) = by_attach s (slice_get slot.attach k)

  -- the stop of a container that was seen waits as long as the definitions say
  by_row : (c : ℕ) (o : Option Listed) → slice_get setup.seen.containers c ≡ o
      → option_and_then (λ (row : Listed). option_map (λ (n : ℕ). Request.Stop row.id n) (ids.waits c)) o ≡ option_map (λ (row : Listed). Request.Stop row.id (stop_seconds setup row)) o
  by_row c None e = refl
  by_row c (Some row) e = ap (option_map (λ (n : ℕ). Request.Stop row.id n)) (are.waits c row e)

  -- the container that is stopped is the one that the slot keeps
  by_kept : (s : ℕ) (o : Option Slot) → slot_at setup.declared s ≡ o
      → option_and_then (λ (slot : Slot). option_map (λ (row : Listed). Request.Stop row.id slot.stop_seconds) (ids.kept_by s)) o
      ≡ option_and_then (λ (slot : Slot). option_map (λ (row : Listed). Request.Stop row.id slot.stop_seconds) (kept_of setup.declared setup.seen slot)) o
  by_kept s None e = refl
  by_kept s (Some slot) e =
      ap (option_map (λ (row : Listed). Request.Stop row.id slot.stop_seconds))
      (are.kept_by s ∙ ap (option_and_then (kept_of setup.declared setup.seen)) e)

  pub request_is : (kind : ActionKind) → request_by setup ids kind ≡ request_of setup past kind
  request_is (MakeVolume v) = refl
  request_is (MakeNetwork n) = refl
  request_is (StopContainer c) = by_row c (slice_get setup.seen.containers c) refl
  request_is (RemoveContainer c) = refl
  request_is (CreateSlot s) = refl
  request_is (ConnectSlot s k) = by_slot s k (slot_at setup.declared s)
  request_is (StopKept s) = by_kept s (slot_at setup.declared s) refl
  request_is (StartSlot s) = ap (option_map (λ (id : List ℕ). Request.Start id)) (slot_id_is s)
  request_is (RemoveNetwork n) = ap (option_map (λ (id : List ℕ). Request.RemoveNetwork id)) (network_id_is n)
  request_is (RemoveVolume v) = refl

  pub poll_is : (s : ℕ) → poll_by ids s ≡ poll_request setup past s
  poll_is s = ap (option_map (λ (id : List ℕ). Request.Inspect id)) (slot_id_is s)

  -- so what is made over the look-up is that request
  pub is_request : {E : Type 0} (kind : ActionKind) (r : Result (Option Request) E)
      → IfOk r (λ request. request ≡ request_by setup ids kind) → IfOk r (λ request. request ≡ request_of setup past kind)
  is_request kind r made = subst (λ (o : Option Request). IfOk r (λ request. request ≡ o)) (request_is kind) made

  pub is_poll : {E : Type 0} (s : ℕ) (r : Result (Option Request) E)
      → IfOk r (λ request. request ≡ poll_by ids s) → IfOk r (λ request. request ≡ poll_request setup past s)
  is_poll s r made = subst (λ (o : Option Request). IfOk r (λ request. request ≡ o)) (poll_is s) made
