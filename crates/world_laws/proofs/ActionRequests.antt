-- What the actions of a plan of `up` ask for.
use Rattle.std.proofs.Common.{◌≡◌, ℕ, true, false, List, Option, Some, None, slice_get, refl, subst}
use Rattle.std.specs.Prelude.{option_and_then, option_map}
use Rattle.engine_types.specs.declared.ActionKind.{ActionKind}
use Rattle.engine_types.specs.declared.ActionKind.TheVariants.{MakeVolume, MakeNetwork, StopContainer, RemoveContainer, CreateSlot, ConnectSlot, StopKept, StartSlot, RemoveNetwork, RemoveVolume}
use Rattle.engine_types.specs.declared.Attach.{Attach}
use Rattle.engine_types.specs.declared.Entry.{Entry}
use Rattle.engine_types.specs.declared.NetworkSpec.{NetworkSpec}
use Rattle.engine_types.specs.declared.Request.{Request}
use Rattle.engine_types.specs.declared.Slot.{Slot}
use Rattle.run_model.specs.Journals.{Setup}
use Rattle.run_model.specs.Observation.{is_up}
use Rattle.run_model.specs.Plans.{Basis, is_wanted, kept_of, slot_at}
use Rattle.run_model.specs.Requests.{connect_request, network_id, request_of, slot_id}
use Rattle.world_laws.proofs.Keeping.{is_sparing}

module _ {X Y : Type 0} where
  -- what an option was that is mapped to something
  pub map_from : (f : X → Y) (o : Option X) (y : Y) → option_map f o ≡ Some y → (x : X) × (o ≡ Some x) × (f x ≡ y)
  map_from f None y e = absurd (cc e)
  map_from f (Some x) y e = (x, refl, cc e)

  pub then_from : (f : X → Option Y) (o : Option X) (y : Y) → option_and_then f o ≡ Some y → (x : X) × (o ≡ Some x) × (f x ≡ Some y)
  then_from f None y e = absurd (cc e)
  then_from f (Some x) y e = (x, refl, e)

-- a request is of an action's kind, and what it makes is what is declared
abbrev pub IsOfKind : Setup → ActionKind → Request → Type 0
IsOfKind setup (MakeVolume v) (Request.MakeVolume spec) = slice_get setup.declared.volumes v ≡ Some spec
IsOfKind setup (MakeNetwork n) (Request.MakeNetwork spec) = slice_get setup.declared.networks n ≡ Some spec
IsOfKind setup (StopContainer c) (Request.Stop id seconds) = Unit {0}
IsOfKind setup (RemoveContainer c) (Request.Remove id) = Unit {0}
IsOfKind setup (CreateSlot s) (Request.Create name spec) = Unit {0}
IsOfKind setup (ConnectSlot s k) (Request.Connect network container aliases) = Unit {0}
IsOfKind setup (StopKept s) (Request.Stop id seconds) = Unit {0}
IsOfKind setup (StartSlot s) (Request.Start id) = Unit {0}
IsOfKind setup (RemoveNetwork n) (Request.RemoveNetwork id) = Unit {0}
IsOfKind setup (RemoveVolume v) (Request.RemoveVolume name) = Unit {0}
IsOfKind setup _ _ = ⊥

pub of_kind : (setup : Setup) (past : List Entry) (kind : ActionKind) (request : Request) → request_of setup past kind ≡ Some request → IsOfKind setup kind request
of_kind setup past (MakeVolume v) request e = let r = map_from _ (slice_get setup.declared.volumes v) request e in
    subst (λ (q : Request). IsOfKind setup (MakeVolume v) q) r.2 r.1
of_kind setup past (MakeNetwork n) request e = let r = map_from _ (slice_get setup.declared.networks n) request e in
    subst (λ (q : Request). IsOfKind setup (MakeNetwork n) q) r.2 r.1
of_kind setup past (StopContainer c) request e = let r = map_from _ (slice_get setup.seen.containers c) request e in
    subst (λ (q : Request). IsOfKind setup (StopContainer c) q) r.2 tt
of_kind setup past (RemoveContainer c) request e = let r = map_from _ (slice_get setup.seen.containers c) request e in
    subst (λ (q : Request). IsOfKind setup (RemoveContainer c) q) r.2 tt
of_kind setup past (CreateSlot s) request e = let r = map_from _ (slot_at setup.declared s) request e in
    subst (λ (q : Request). IsOfKind setup (CreateSlot s) q) r.2 tt
of_kind setup past (ConnectSlot s k) request e =
    let r = then_from _ (slot_at setup.declared s) request e in
    let slot : Slot = r.0 in
    let q = then_from (connect_request setup past s) (slice_get slot.attach k) request r.2 in
    let attach : Attach = q.0 in
    let n = then_from _ (network_id setup past attach.network) request q.2 in
    let c = map_from _ (slot_id setup past s) request n.2 in
    subst (λ (x : Request). IsOfKind setup (ConnectSlot s k) x) c.2 tt
of_kind setup past (StopKept s) request e =
    let r = then_from _ (slot_at setup.declared s) request e in
    let slot : Slot = r.0 in
    let q = map_from _ (kept_of setup.declared setup.seen slot) request r.2 in
    subst (λ (x : Request). IsOfKind setup (StopKept s) x) q.2 tt
of_kind setup past (StartSlot s) request e = let r = map_from _ (slot_id setup past s) request e in
    subst (λ (q : Request). IsOfKind setup (StartSlot s) q) r.2 tt
of_kind setup past (RemoveNetwork n) request e = let r = map_from _ (network_id setup past n) request e in
    subst (λ (q : Request). IsOfKind setup (RemoveNetwork n) q) r.2 tt
of_kind setup past (RemoveVolume v) request e = let r = map_from _ (slice_get setup.declared.volumes v) request e in
    subst (λ (q : Request). IsOfKind setup (RemoveVolume v) q) r.2 tt

-- only an action that makes a network asks for one
pub network_kind : (setup : Setup) (kind : ActionKind) (spec : NetworkSpec) → IsOfKind setup kind (Request.MakeNetwork spec)
    → (n : ℕ) × (kind ≡ MakeNetwork n) × (slice_get setup.declared.networks n ≡ Some spec)
network_kind setup (MakeNetwork n) spec h = (n, refl, h)
network_kind setup _ spec h = absurd h

-- an action that a plan of `up` wants asks for nothing to go but containers
pub wanted_sparing : (basis : Basis) (setup : Setup) (kind : ActionKind) (request : Request) → is_up basis.aim.purpose ≡ true → is_wanted basis kind ≡ true
    → IsOfKind setup kind request → is_sparing request ≡ true
wanted_sparing basis setup (MakeVolume v) (Request.MakeVolume spec) up w h = refl
wanted_sparing basis setup (MakeNetwork n) (Request.MakeNetwork spec) up w h = refl
wanted_sparing basis setup (StopContainer c) (Request.Stop id seconds) up w h = refl
wanted_sparing basis setup (RemoveContainer c) (Request.Remove id) up w h = refl
wanted_sparing basis setup (CreateSlot s) (Request.Create name spec) up w h = refl
wanted_sparing basis setup (ConnectSlot s k) (Request.Connect network container aliases) up w h = refl
wanted_sparing basis setup (StopKept s) (Request.Stop id seconds) up w h = refl
wanted_sparing basis setup (StartSlot s) (Request.Start id) up w h = refl
wanted_sparing basis setup (RemoveNetwork n) request up w h = let bad : false ≡ true = rw up at w in absurd (cc bad)
wanted_sparing basis setup (RemoveVolume v) request up w h = let bad : false ≡ true = rw up at w in absurd (cc bad)
wanted_sparing basis setup _ _ up w h = absurd h
