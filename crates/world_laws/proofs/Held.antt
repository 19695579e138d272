-- Which containers the Engine has in the course of a run of `up`, and what they are like.
use Rattle.std.proofs.Common.{◌≡◌, ℕ, Bool, true, false, List, Option, Some, None, slice_get, refl, sym, ◌∙◌, subst}
use Rattle.std.specs.List.{list_any}
use Rattle.std.specs.Str.{bytes_eq}
use Rattle.tree_base.specs.declared.Var.{Var}
use Rattle.engine_types.specs.declared.ActionKind.TheVariants.{CreateSlot, RemoveContainer}
use Rattle.engine_types.specs.declared.Attach.{Attach}
use Rattle.engine_types.specs.declared.ContainerRow.{ContainerRow}
use Rattle.engine_types.specs.declared.Declared.{Declared}
use Rattle.engine_types.specs.declared.Engine.{Engine}
use Rattle.engine_types.specs.declared.Listed.{Listed}
use Rattle.engine_types.specs.declared.Purpose.{Purpose}
use Rattle.engine_types.specs.declared.Reply.{Reply}
use Rattle.engine_types.specs.declared.Slot.{Slot}
use Rattle.run_model.specs.EngineRules.{container_at, is_of_project, network_has_name}
use Rattle.run_model.specs.Journals.{Setup}
use Rattle.run_model.specs.Labels.{is_lost_state}
use Rattle.run_model.specs.Plans.{kind_of, network_name, seen_image, slot_at}
use Rattle.run_model.specs.Requests.{OfAction}
use Rattle.run_model.specs.Worlds.{Move, effect_of}
use Rattle.run_model.proofs.DistinctLists.{at_place, from_place}
use Rattle.world_laws.specs.Sights.{IsSightOf}
use Rattle.world_laws.proofs.Bodies.{AlikeAt, KeepsContainers, on_named}
use Rattle.world_laws.proofs.Keeping.{KeepsResources}

-- a container is at the id, with these labels and this image, on its way out or not, and on networks of these names
pub record IsAt (engine : Engine) (id : List ℕ) (labels : List Var) (image : List ℕ) (lost : Bool) (OnNamed : List ℕ → Type 0) : Type 0 where
  pub row : ContainerRow
  pub is_there : container_at engine id ≡ Some row
  pub labels_are : row.labels ≡ labels
  pub image_is : row.image_id ≡ image
  pub lost_is : is_lost_state row.report.state ≡ lost
  pub on : (n : List ℕ) → OnNamed n → list_any (network_has_name engine n) row.networks ≡ true

-- it stays so where it stays as it was
pub at_stays : (old new : Engine) (id : List ℕ) (labels : List Var) (image : List ℕ) (lost : Bool) (OnNamed : List ℕ → Type 0) → AlikeAt (container_at old id) (container_at new id)
    → KeepsResources old new → IsAt old id labels image lost OnNamed → IsAt new id labels image lost OnNamed
at_stays old new id labels image lost OnNamed alike keeps x = at (container_at new id) refl (subst (λ (o : Option ContainerRow). AlikeAt o (container_at new id)) x.is_there alike)
  where
    at : (o : Option ContainerRow) → container_at new id ≡ o → AlikeAt (Some x.row) o → IsAt new id labels image lost OnNamed
    at None e a = absurd a
    at (Some now) e a = record {
      row = now;
      is_there = e;
      labels_are = a.labels ∙ x.labels_are;
      image_is = a.image_id ∙ x.image_is;
      lost_is = a.lost ∙ x.lost_is;
      on = λ n h. on_named old new n x.row now keeps a (x.on n h);
    }

-- the container that was seen is there
abbrev pub SeenAt : Engine → Listed → Type 0
SeenAt engine listed = IsAt engine listed.id listed.labels listed.image_id (is_lost_state listed.state) (λ n. list_any (bytes_eq n) listed.networks ≡ true)

-- the name of the network of a slot's first attach
abbrev pub IsFirstName : Declared → Slot → List ℕ → Type 0
IsFirstName declared slot n = (attach : Attach) × (slice_get slot.attach 0 ≡ Some attach) × (n ≡ network_name declared attach)

-- a container that was made for a slot is there
abbrev pub MadeAt : Setup → Engine → Slot → List ℕ → Type 0
MadeAt setup engine slot id = (image : List ℕ) × (seen_image setup.seen slot ≡ Some image)
    × IsAt engine id slot.spec.labels image false (IsFirstName setup.declared slot)

-- the replies of the actions' effects so far
abbrev pub effects : List Move → ℕ → Option Reply
effects moves a = effect_of moves (OfAction a)

-- no remove of this container has been done
abbrev pub IsUnremoved : Setup → (ℕ → Option Reply) → ℕ → Type 0
IsUnremoved setup effect c = (a : ℕ) → kind_of setup.actions a ≡ Some (RemoveContainer c) → effect a ≡ Some Reply.Done → ⊥

-- an action made a container with this id for a slot
pub record IsMade (setup : Setup) (effect : ℕ → Option Reply) (a s : ℕ) (slot : Slot) (id : List ℕ) : Type 0 where
  pub kind_is : kind_of setup.actions a ≡ Some (CreateSlot s)
  pub slot_is : slot_at setup.declared s ≡ Some slot
  pub effect_is : effect a ≡ Some (Reply.Made id)

-- what a container of the project is: one that was seen, or one that was made
pub data Origin (setup : Setup) (effect : ℕ → Option Reply) (id : List ℕ) (labels : List Var) : Type 0 where
  WasSeen : (c : ℕ) (listed : Listed) → slice_get setup.seen.containers c ≡ Some listed → listed.id ≡ id → listed.labels ≡ labels → IsUnremoved setup effect c
      → Origin setup effect id labels
  WasMade : (a s : ℕ) (slot : Slot) → IsMade setup effect a s slot id → slot.spec.labels ≡ labels → Origin setup effect id labels

-- which containers the Engine has: those that were seen and not removed, those that were made, and of the project no other; and
-- the id of one that was made is no other's that is still there
pub record Holds (setup : Setup) (effect : ℕ → Option Reply) (engine : Engine) : Type 0 where
  pub seen : (c : ℕ) (listed : Listed) → slice_get setup.seen.containers c ≡ Some listed → IsUnremoved setup effect c → SeenAt engine listed
  pub made : (a s : ℕ) (slot : Slot) (id : List ℕ) → IsMade setup effect a s slot id → MadeAt setup engine slot id
  pub all : (id : List ℕ) (row : ContainerRow) → container_at engine id ≡ Some row → is_of_project setup.declared.project row.labels ≡ true → Origin setup effect id row.labels
  pub apart : (a s : ℕ) (slot : Slot) (id : List ℕ) (c : ℕ) (listed : Listed) → IsMade setup effect a s slot id → slice_get setup.seen.containers c ≡ Some listed → listed.id ≡ id
      → IsUnremoved setup effect c → ⊥

module _ (setup : Setup) (effect : ℕ → Option Reply) (old new : Engine) (keeps : KeepsContainers old new) (stay : KeepsResources old new) where
  labels_before : (id : List ℕ) (row : ContainerRow) → container_at new id ≡ Some row → (was : ContainerRow) × (container_at old id ≡ Some was) × (row.labels ≡ was.labels)
  labels_before id row e = at (container_at old id) refl (subst (λ (o : Option ContainerRow). AlikeAt (container_at old id) o) e (keeps id))
    where
      at : (o : Option ContainerRow) → container_at old id ≡ o → AlikeAt o (Some row) → (was : ContainerRow) × (container_at old id ≡ Some was) × (row.labels ≡ was.labels)
      at None h a = absurd a
      at (Some was) h a = (was, h, a.labels)

  -- the Engine holds the same where its containers stay as they were
  pub holds_still : Holds setup effect old → Holds setup effect new
  holds_still held = record {
    seen = λ c listed e u. at_stays old new listed.id listed.labels listed.image_id (is_lost_state listed.state) (λ n. list_any (bytes_eq n) listed.networks ≡ true)
        (keeps listed.id) stay (held.seen c listed e u);
    made = λ a s slot id m. let x = held.made a s slot id m in
        (x.0, x.1, at_stays old new id slot.spec.labels x.0 false (IsFirstName setup.declared slot) (keeps id) stay x.2);
    all = λ id row e p.
        let w = labels_before id row e in
        subst (λ (labels : List Var). Origin setup effect id labels) (sym w.2) (held.all id w.0 w.1 (subst (λ (labels : List Var). is_of_project setup.declared.project labels ≡ true) w.2 p));
    apart = held.apart;
  }

-- what was seen is held, before any action has had an effect
module _ (purpose : Purpose) (setup : Setup) (engine : Engine) (effect : ℕ → Option Reply) (none : (a : ℕ) → effect a ≡ None)
    (sight : IsSightOf setup.declared purpose setup.seen engine) where
  unremoved : (c : ℕ) → IsUnremoved setup effect c
  unremoved c a k e = let bad : None ≡ Some Reply.Done = sym (none a) ∙ e in cc bad

  unmade : (a s : ℕ) (slot : Slot) (id : List ℕ) → IsMade setup effect a s slot id → ⊥
  unmade a s slot id m = let bad : None ≡ Some (Reply.Made id) = sym (none a) ∙ m.effect_is in cc bad

  pub holds_seen : Holds setup effect engine
  holds_seen = record {
    seen = λ c listed e u.
        let x = sight.shown listed (from_place setup.seen.containers c listed e) in
        record {
          row = x.0;
          is_there = x.1;
          labels_are = sym x.3.labels;
          image_is = sym x.3.image_id;
          lost_is = sym x.3.lost;
          on = λ n h. sym (x.3.networks n) ∙ h;
        };
    made = λ a s slot id m. absurd (unmade a s slot id m);
    all = λ id row e p.
        let x = sight.all id row e p in
        let c = at_place setup.seen.containers x.0 x.1 in
        WasSeen c.0 x.0 c.1 x.2 x.3.labels (unremoved c.0);
    apart = λ a s slot id c listed m e h u. unmade a s slot id m;
  }
