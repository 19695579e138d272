-- What the plan of a run of `up` has, and which action a request is of.
use Rattle.std.proofs.Common.{◌≡◌, ℕ, zero, suc, true, false, List, [], ◌∷◌, map, Some, slice_get, refl, sym, ap, ◌∙◌}
use Rattle.std.proofs.lemmas.Slice.Eq.{bytes_eq-Decides}
use Rattle.std.specs.List.{AllByRecursion, IsDistinct}
use Rattle.std.specs.Prelude.{option_map}
use Rattle.std.specs.Str.{bytes_eq}
use Rattle.engine_types.specs.declared.ActionKind.{ActionKind}
use Rattle.engine_types.specs.declared.ActionKind.TheVariants.{MakeVolume, MakeNetwork, StopContainer, RemoveContainer, CreateSlot, ConnectSlot, StopKept, StartSlot, RemoveNetwork, RemoveVolume}
use Rattle.engine_types.specs.declared.Aim.{Aim}
use Rattle.engine_types.specs.declared.Attach.{Attach}
use Rattle.engine_types.specs.declared.ContainerSpec.{ContainerSpec}
use Rattle.engine_types.specs.declared.Engine.{Engine}
use Rattle.engine_types.specs.declared.Entry.{Entry}
use Rattle.engine_types.specs.declared.Listed.{Listed}
use Rattle.engine_types.specs.declared.Request.{Request}
use Rattle.engine_types.specs.declared.Slot.{Slot}
use Rattle.run_model.specs.Journals.{Setup}
use Rattle.run_model.specs.Plans.{LeavesKept, kept_of, slot_at}
use Rattle.run_model.specs.Requests.{connect_request, network_id, request_of, slot_id}
use Rattle.run_model.specs.Worlds.{Move, entries_of}
use Rattle.run_model.proofs.KeptLaws.{leaves_kept}
use Rattle.world_laws.proofs.ActionRequests.{map_from, then_from}
use Rattle.world_laws.proofs.Finished.{IsRunning, basis_of}
use Rattle.world_laws.proofs.Observing.{ids_differ, seen_by}

module _ (aim : Aim) (setup : Setup) (first last : Engine) (moves : List Move) (run : IsRunning aim setup first moves last) where
  -- the containers that were seen have different ids
  pub seen_ids : IsDistinct bytes_eq (map (λ (row : Listed). row.id) setup.seen.containers)
  seen_ids = ids_differ setup.declared aim setup.seen (seen_by aim setup (entries_of moves) setup.seen run.legal run.saw)

  -- kept containers are left alone
  pub leaves : LeavesKept (basis_of aim setup)
  leaves = leaves_kept (basis_of aim setup) run.up run.whole.owners seen_ids

-- no later element has the id of one that differs from all of theirs
apart_at : (id : List ℕ) (ys : List Listed) (k : ℕ) (w : Listed) → AllByRecursion (λ (i : List ℕ). bytes_eq id i ≡ false) (map (λ (row : Listed). row.id) ys)
    → slice_get ys k ≡ Some w → id ≡ w.id → ⊥
apart_at id [] k w a g h = cc g
apart_at id (v ∷ ys) zero w a g h =
    let here : v ≡ w = cc g in
    let bad : false ≡ true = sym a.0 ∙ (bytes_eq-Decides id v.id).1 (h ∙ ap (λ (row : Listed). row.id) (sym here)) in cc bad
apart_at id (v ∷ ys) (suc k) w a g h = apart_at id ys k w a.1 g h

-- elements with one id are at one place, where ids differ
pub place_of_id : (xs : List Listed) (i j : ℕ) (x y : Listed) → IsDistinct bytes_eq (map (λ (row : Listed). row.id) xs) → slice_get xs i ≡ Some x → slice_get xs j ≡ Some y
    → x.id ≡ y.id → i ≡ j
unfolding IsDistinct
place_of_id [] i j x y d e f same = absurd (cc e)
place_of_id (z ∷ zs) zero zero x y d e f same = refl
place_of_id (z ∷ zs) zero (suc j) x y d e f same = let here : z ≡ x = cc e in absurd (apart_at z.id zs j y d.0 f (ap (λ (row : Listed). row.id) here ∙ same))
place_of_id (z ∷ zs) (suc i) zero x y d e f same = let here : z ≡ y = cc f in absurd (apart_at z.id zs i x d.0 e (ap (λ (row : Listed). row.id) here ∙ sym same))
place_of_id (z ∷ zs) (suc i) (suc j) x y d e f same = ap suc (place_of_id zs i j x y d.1 e f same)

-- which action a request is of
pub record IsRemoveOf (setup : Setup) (kind : ActionKind) (id : List ℕ) : Type 0 where
  pub c : ℕ
  pub listed : Listed
  pub kind_is : kind ≡ RemoveContainer c
  pub listed_is : slice_get setup.seen.containers c ≡ Some listed
  pub id_is : listed.id ≡ id

pub record IsCreateOf (setup : Setup) (kind : ActionKind) (name : List ℕ) (spec : ContainerSpec) : Type 0 where
  pub s : ℕ
  pub slot : Slot
  pub kind_is : kind ≡ CreateSlot s
  pub slot_is : slot_at setup.declared s ≡ Some slot
  pub spec_is : spec ≡ slot.spec

-- the request of a connect, and what it is made from
pub record IsConnectOf (setup : Setup) (tail : List Entry) (s k : ℕ) (request : Request) : Type 0 where
  pub slot : Slot
  pub slot_is : slot_at setup.declared s ≡ Some slot
  pub attach : Attach
  pub attach_is : slice_get slot.attach k ≡ Some attach
  pub network : List ℕ
  pub network_is : network_id setup tail attach.network ≡ Some network
  pub id : List ℕ
  pub id_is : slot_id setup tail s ≡ Some id
  pub request_is : request ≡ Request.Connect network id attach.aliases

module _ (setup : Setup) (tail : List Entry) where
  pub connect_of : (s k : ℕ) (request : Request) → request_of setup tail (ConnectSlot s k) ≡ Some request → IsConnectOf setup tail s k request
  connect_of s k request e =
      let x = then_from _ (slot_at setup.declared s) request e in
      let y = then_from (connect_request setup tail s) (slice_get x.0.attach k) request x.2 in
      let z = then_from _ (network_id setup tail y.0.network) request y.2 in
      let w = map_from _ (slot_id setup tail s) request z.2 in
      record { slot = x.0; slot_is = x.1; attach = y.0; attach_is = y.1; network = z.0; network_is = z.1; id = w.0; id_is = w.1; request_is = sym w.2 }

  -- the request of the stop of a kept container is a stop
  pub stop_of : (s : ℕ) (request : Request) → request_of setup tail (StopKept s) ≡ Some request → (id : List ℕ) × (seconds : ℕ) × (request ≡ Request.Stop id seconds)
  stop_of s request e =
      let x = then_from (λ (slot : Slot). option_map (λ (row : Listed). Request.Stop row.id slot.stop_seconds) (kept_of setup.declared setup.seen slot)) (slot_at setup.declared s) request e in
      let slot : Slot = x.0 in
      let y = map_from (λ (row : Listed). Request.Stop row.id slot.stop_seconds) (kept_of setup.declared setup.seen slot) request x.2 in
      (y.0.id, slot.stop_seconds, sym y.2)

  pub remove_of : (kind : ActionKind) (id : List ℕ) → request_of setup tail kind ≡ Some (Request.Remove id) → IsRemoveOf setup kind id
  remove_of (RemoveContainer c) id e =
      let x = map_from _ (slice_get setup.seen.containers c) _ e in
      let same : x.0.id ≡ id = cc x.2 in record { c = c; listed = x.0; kind_is = refl; listed_is = x.1; id_is = same }
  remove_of (MakeVolume v) id e = let x = map_from _ _ _ e in absurd (cc x.2)
  remove_of (MakeNetwork n) id e = let x = map_from _ _ _ e in absurd (cc x.2)
  remove_of (StopContainer c) id e = let x = map_from _ _ _ e in absurd (cc x.2)
  remove_of (CreateSlot s) id e = let x = map_from _ _ _ e in absurd (cc x.2)
  remove_of (ConnectSlot s k) id e = let x = connect_of s k (Request.Remove id) e in absurd (cc x.request_is)
  remove_of (StopKept s) id e = let x = stop_of s (Request.Remove id) e in absurd (cc x.2)
  remove_of (StartSlot s) id e = let x = map_from _ _ _ e in absurd (cc x.2)
  remove_of (RemoveNetwork n) id e = let x = map_from _ _ _ e in absurd (cc x.2)
  remove_of (RemoveVolume v) id e = let x = map_from _ _ _ e in absurd (cc x.2)

  pub create_is : (kind : ActionKind) (name : List ℕ) (spec : ContainerSpec) → request_of setup tail kind ≡ Some (Request.Create name spec) → IsCreateOf setup kind name spec
  create_is (CreateSlot s) name spec e =
      let x = map_from _ (slot_at setup.declared s) _ e in
      let same : x.0.spec ≡ spec = cc x.2 in record { s = s; slot = x.0; kind_is = refl; slot_is = x.1; spec_is = sym same }
  create_is (MakeVolume v) name spec e = let x = map_from _ _ _ e in absurd (cc x.2)
  create_is (MakeNetwork n) name spec e = let x = map_from _ _ _ e in absurd (cc x.2)
  create_is (StopContainer c) name spec e = let x = map_from _ _ _ e in absurd (cc x.2)
  create_is (RemoveContainer c) name spec e = let x = map_from _ _ _ e in absurd (cc x.2)
  create_is (ConnectSlot s k) name spec e = let x = connect_of s k (Request.Create name spec) e in absurd (cc x.request_is)
  create_is (StopKept s) name spec e = let x = stop_of s (Request.Create name spec) e in absurd (cc x.2)
  create_is (StartSlot s) name spec e = let x = map_from _ _ _ e in absurd (cc x.2)
  create_is (RemoveNetwork n) name spec e = let x = map_from _ _ _ e in absurd (cc x.2)
  create_is (RemoveVolume v) name spec e = let x = map_from _ _ _ e in absurd (cc x.2)
