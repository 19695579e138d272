-- The containers after a run of `up` in which all ended well: each slot has exactly one, and it is as declared.
use Rattle.std.proofs.Common.{◌≡◌, ◌⊎◌, ℕ, zero, suc, Bool, true, false, not, ◌&&◌, ◌||◌, List, [], ◌∷◌, Option, Some, None, slice_get, refl, sym, ap, ◌∙◌, subst, inl, inr}
use Rattle.std.proofs.lemmas.Bool.{eqb-true}
use Rattle.std.proofs.lemmas.Option.{slice_get_within}
use Rattle.std.proofs.lemmas.Slice.Eq.{bytes_eq-Decides}
use Rattle.std.specs.List.{list_all, list_any}
use Rattle.std.specs.Option.{option_map_or}
use Rattle.std.specs.Prelude.{if◌then◌else◌, ◌==◌}
use Rattle.std.specs.Str.{bytes_eq}
use Rattle.engine_types.specs.declared.Aim.{Aim}
use Rattle.tree_base.specs.declared.Var.{Var}
use Rattle.engine_types.specs.declared.Action.{Action}
use Rattle.engine_types.specs.declared.ActionKind.{ActionKind}
use Rattle.engine_types.specs.declared.ActionKind.TheVariants.{ConnectSlot, CreateSlot, RemoveContainer}
use Rattle.engine_types.specs.declared.Attach.{Attach}
use Rattle.engine_types.specs.declared.ContainerRow.{ContainerRow}
use Rattle.engine_types.specs.declared.Engine.{Engine}
use Rattle.engine_types.specs.declared.Listed.{Listed}
use Rattle.engine_types.specs.declared.Reply.{Reply}
use Rattle.engine_types.specs.declared.Slot.{Slot}
use Rattle.run_model.specs.EngineRules.{Among, container_at, image_at, is_of_project, network_has_name}
use Rattle.run_model.specs.Exact.{IsExactSlot, agrees_in}
use Rattle.run_model.specs.Journals.{Setup, is_good}
use Rattle.run_model.specs.Labels.{has_declared_service, is_of_slot, is_orphan, names_service}
use Rattle.run_model.specs.Plans.{Basis, CarriesOut, is_kept, is_removed, is_unattached, is_wanted, kept_of, kind_of, network_name, seen_image, slot_at}
use Rattle.run_model.specs.Worlds.{Move}
use Rattle.run_model.proofs.DistinctLists.{at_place, from_place}
use Rattle.run_model.proofs.KeptLaws.{any_from_list, any_of_list, declared_named}
use Rattle.run_model.proofs.PlanLaws.{some_from}
use Rattle.world_laws.proofs.ActionRequests.{map_from}
use Rattle.world_laws.proofs.Effects.{each_has_effect}
use Rattle.world_laws.proofs.Finished.{IsFinished, IsRunning, basis_of}
use Rattle.world_laws.proofs.Held.{Holds, IsFirstName, IsMade, IsUnremoved, MadeAt, Origin, SeenAt, WasMade, WasSeen, effects}
use Rattle.world_laws.proofs.Holding.{holds}
use Rattle.world_laws.proofs.Joining.{IsJoined, are_joined}
use Rattle.world_laws.proofs.Kept.{IsSlotId, OfKept, OfMade, kept_at, kept_unremoved}
use Rattle.world_laws.proofs.Planning.{leaves, place_of_id, seen_ids}
use Rattle.world_laws.proofs.ResourceMoves.{plan_of}
use Rattle.world_laws.proofs.Resources.{image_stays}
use Rattle.world_laws.proofs.Slots.{IsLabelled, agrees_by, agrees_to, is_labelled, one_slot}

-- the one good reply to a remove, to a create and to a connect
good_remove : (c : ℕ) (reply : Reply) → is_good (RemoveContainer c) reply ≡ true → reply ≡ Reply.Done
good_remove c Reply.Done e = refl
good_remove c _ e = absurd (cc e)

good_create : (s : ℕ) (reply : Reply) → is_good (CreateSlot s) reply ≡ true → (id : List ℕ) × (reply ≡ Reply.Made id)
good_create s (Reply.Made id) e = (id, refl)
good_create s _ e = absurd (cc e)

good_connect : (s k : ℕ) (reply : Reply) → is_good (ConnectSlot s k) reply ≡ true → reply ≡ Reply.Done
good_connect s k Reply.Done e = refl
good_connect s k _ e = absurd (cc e)

-- where the element at each place passes, all do
all_by : {X : Type 0} (test : X → Bool) (xs : List X) → ((k : ℕ) (x : X) → slice_get xs k ≡ Some x → test x ≡ true) → list_all test xs ≡ true
all_by test [] each = refl
all_by test (x ∷ xs) each = rw (each zero x refl) (all_by test xs (λ k y e. each (suc k) y e))

-- an action that was done, with its good reply
record IsDone (setup : Setup) (moves : List Move) (kind : ActionKind) : Type 0 where
  action : ℕ
  kind_is : kind_of setup.actions action ≡ Some kind
  reply : Reply
  effect_is : effects moves action ≡ Some reply
  good : is_good kind reply ≡ true

module _ (aim : Aim) (setup : Setup) (first last : Engine) (moves : List Move) (finished : IsFinished aim setup first moves last) where
  abbrev run : IsRunning aim setup first moves last
  run = finished.running

  abbrev basis : Basis
  basis = basis_of aim setup

  held : Holds setup (effects moves) last
  held = holds aim setup first moves last run

  plan : CarriesOut basis setup.actions
  plan = plan_of aim setup first last moves run

  -- each action that is wanted was done
  done : (kind : ActionKind) → is_wanted basis kind ≡ true → IsDone setup moves kind
  done kind w =
      let x = plan.all kind w in
      let at = map_from (λ (action : Action). action.kind) (slice_get setup.actions x.0) kind x.1 in
      let y = each_has_effect setup first last moves x.0 run.world (finished.well x.0 (slice_get_within setup.actions x.0 at.0 at.1)) in
      let kinds : Some y.1.good.kind ≡ Some kind = sym y.1.good.kind_is ∙ x.1 in
      let same : y.1.good.kind ≡ kind = cc kinds in
      record { action = x.0; kind_is = x.1; reply = y.0; effect_is = y.1.effect; good = subst (λ (k : ActionKind). is_good k y.0 ≡ true) same y.1.good.good }

  -- what is still there of what was seen wasn't to go
  not_to_go : (c : ℕ) (listed : Listed) → slice_get setup.seen.containers c ≡ Some listed → IsUnremoved setup (effects moves) c → is_removed basis listed ≡ false
  not_to_go c listed e u = at (is_removed basis listed) refl
    where
      at : (t : Bool) → is_removed basis listed ≡ t → is_removed basis listed ≡ false
      at false h = h
      at true h =
          let x = done (RemoveContainer c) (rw (e, h) refl) in
          absurd (u x.action x.kind_is (x.effect_is ∙ ap Some (good_remove c x.reply x.good)))

  -- a slot without a kept container has the one that was made for it
  made_for : (s : ℕ) (slot : Slot) → slot_at setup.declared s ≡ Some slot → kept_of setup.declared setup.seen slot ≡ None
      → (a : ℕ) × (id : List ℕ) × IsMade setup (effects moves) a s slot id
  made_for s slot h none =
      let x = done (CreateSlot s) (rw (run.up, h, none) refl) in
      let r = good_create s x.reply x.good in
      (x.action, r.0, record { kind_is = x.kind_is; slot_is = h; effect_is = x.effect_is ∙ ap Some r.1 })

  -- where nothing is to be created nothing was
  not_made : (s : ℕ) (slot : Slot) (listed : Listed) → slot_at setup.declared s ≡ Some slot → kept_of setup.declared setup.seen slot ≡ Some listed
      → (a : ℕ) → kind_of setup.actions a ≡ Some (CreateSlot s) → ⊥
  not_made s slot listed h k a kind =
      let unwanted = (leaves aim setup first last moves run).creates s listed (rw h k) in
      let bad : false ≡ true = sym unwanted ∙ plan.wanted a (CreateSlot s) kind in cc bad

  -- a slot has one container
  one_id : (s : ℕ) (i j : List ℕ) → IsSlotId setup (effects moves) s i → IsSlotId setup (effects moves) s j → i ≡ j
  one_id s i j (OfKept slot listed h k e) (OfKept other row g l f) =
      let slots : Some slot ≡ Some other = sym h ∙ g in
      let same : slot ≡ other = cc slots in
      let kept : Some listed ≡ Some row = sym k ∙ ap (kept_of setup.declared setup.seen) same ∙ l in
      let one : listed ≡ row = cc kept in sym e ∙ ap (λ (x : Listed). x.id) one ∙ f
  one_id s i j (OfKept slot listed h k e) (OfMade a other m) = absurd (not_made s slot listed h k a m.kind_is)
  one_id s i j (OfMade a slot m) (OfKept other row g l f) = absurd (not_made s other row g l a m.kind_is)
  one_id s i j (OfMade a slot m) (OfMade b other n) =
      let same : a ≡ b = plan.once a b (CreateSlot s) m.kind_is n.kind_is in
      let told : Some (Reply.Made i) ≡ Some (Reply.Made j) = sym m.effect_is ∙ ap (effects moves) same ∙ n.effect_is in cc told

  -- whose a container of the project is: a slot's, or nobody's where orphans stay
  record IsOfSlot (id : List ℕ) (labels : List Var) : Type 0 where
    s : ℕ
    slot : Slot
    slot_is : slot_at setup.declared s ≡ Some slot
    of_slot : is_of_slot setup.declared.project slot labels ≡ true
    is_slots : IsSlotId setup (effects moves) s id

  abbrev IsLeft : List Var → Type 0
  IsLeft labels = (has_declared_service setup.declared labels ≡ false) × (aim.orphans ≡ false)

  of_kept : (c : ℕ) (listed : Listed) → slice_get setup.seen.containers c ≡ Some listed → is_kept setup.declared setup.seen listed ≡ true → IsOfSlot listed.id listed.labels
  of_kept c listed e k =
      let x = any_from_list (λ (slot : Slot). option_map_or (λ (row : Listed). bytes_eq row.id listed.id) (kept_of setup.declared setup.seen slot) false) setup.declared.slots k in
      let y = some_from (λ (row : Listed). bytes_eq row.id listed.id) (kept_of setup.declared setup.seen x.0) x.2 in
      let at = kept_at setup.declared setup.seen x.0 y.0 x.1 y.1 in
      let ids : y.0.id ≡ listed.id = (bytes_eq-Decides y.0.id listed.id).0 y.2 in
      let place = place_of_id setup.seen.containers at.c c y.0 listed (seen_ids aim setup first last moves run) at.listed_is e ids in
      let rows : Some y.0 ≡ Some listed = sym at.listed_is ∙ ap (slice_get setup.seen.containers) place ∙ e in
      let same : y.0 ≡ listed = cc rows in
      let s = at_place setup.declared.slots x.0 x.1 in
      let agrees = agrees_to setup.declared.project x.0 (seen_image setup.seen x.0) y.0.labels y.0.image_id y.0.state at.agrees in
      record {
        s = s.0;
        slot = x.0;
        slot_is = s.1;
        of_slot = subst (λ (row : Listed). is_of_slot setup.declared.project x.0 row.labels ≡ true) same agrees.of_slot;
        is_slots = OfKept x.0 y.0 s.1 y.1 ids;
      }

  whose_seen : (c : ℕ) (listed : Listed) → slice_get setup.seen.containers c ≡ Some listed → IsUnremoved setup (effects moves) c
      → is_of_project setup.declared.project listed.labels ≡ true → IsOfSlot listed.id listed.labels ⊎ IsLeft listed.labels
  whose_seen c listed e u p = at (has_declared_service setup.declared listed.labels) refl (is_kept setup.declared setup.seen listed) refl (rw (p, run.up) at (not_to_go c listed e u))
    where
      at : (t : Bool) → has_declared_service setup.declared listed.labels ≡ t → (k : Bool) → is_kept setup.declared setup.seen listed ≡ k
          → (if t then not k else aim.orphans) ≡ false → IsOfSlot listed.id listed.labels ⊎ IsLeft listed.labels
      at true h true k f = inl (of_kept c listed e k)
      at true h false k f = absurd (cc f)
      at false h t k f = inr (h, f)

  whose : (id : List ℕ) (labels : List Var) → Origin setup (effects moves) id labels → is_of_project setup.declared.project labels ≡ true → IsOfSlot id labels ⊎ IsLeft labels
  whose id labels (WasSeen c listed e same l u) p =
      at (whose_seen c listed e u (subst (λ (x : List Var). is_of_project setup.declared.project x ≡ true) (sym l) p))
    where
      at : IsOfSlot listed.id listed.labels ⊎ IsLeft listed.labels → IsOfSlot id labels ⊎ IsLeft labels
      at (inl x) = inl (subst (λ (i : List ℕ). IsOfSlot i labels) same (subst (λ (y : List Var). IsOfSlot listed.id y) l x))
      at (inr x) = inr (subst (λ (y : List Var). IsLeft y) l x)
  whose id labels (WasMade a s slot m l) p = inl (record {
    s = s;
    slot = slot;
    slot_is = m.slot_is;
    of_slot = subst (λ (x : List Var). is_of_slot setup.declared.project slot x ≡ true) l (run.own slot (from_place setup.declared.slots s slot m.slot_is)).labels;
    is_slots = OfMade a slot m;
  })

  -- no other container of the project is there than the slots', and orphans where these weren't asked for
  pub no_others : (id : List ℕ) (row : ContainerRow) → container_at last id ≡ Some row → is_of_project setup.declared.project row.labels ≡ true
      → (list_any (λ slot. is_of_slot setup.declared.project slot row.labels) setup.declared.slots || (not aim.orphans && is_orphan setup.declared row.labels)) ≡ true
  no_others id row e p = at (whose id row.labels (held.all id row e p) p)
    where
      left : (some asked orphan : Bool) → asked ≡ false → orphan ≡ true → (some || (not asked && orphan)) ≡ true
      left true asked orphan f g = refl
      left false asked orphan f g = rw (f, g) refl

      at : IsOfSlot id row.labels ⊎ IsLeft row.labels
          → (list_any (λ slot. is_of_slot setup.declared.project slot row.labels) setup.declared.slots || (not aim.orphans && is_orphan setup.declared row.labels)) ≡ true
      at (inl x) =
          let any = any_of_list (λ slot. is_of_slot setup.declared.project slot row.labels) setup.declared.slots x.slot (from_place setup.declared.slots x.s x.slot x.slot_is) x.of_slot in
          rw any refl
      at (inr x) =
          let orphan : is_orphan setup.declared row.labels ≡ true = rw (p, x.0) refl in
          left (list_any (λ slot. is_of_slot setup.declared.project slot row.labels) setup.declared.slots) aim.orphans (is_orphan setup.declared row.labels) x.1 orphan

  module _ (s : ℕ) (slot : Slot) (slot_is : slot_at setup.declared s ≡ Some slot) where
    among : Among setup.declared.slots slot
    among = from_place setup.declared.slots s slot slot_is

    -- each container of the slot is the slot's
    only_its : (i : List ℕ) (other : ContainerRow) → container_at last i ≡ Some other → is_of_slot setup.declared.project slot other.labels ≡ true → IsSlotId setup (effects moves) s i
    only_its i other e t = at (whose i other.labels (held.all i other e x.of_project) x.of_project)
      where
        x : IsLabelled setup.declared.project slot other.labels
        x = is_labelled setup.declared.project slot other.labels t

        at : IsOfSlot i other.labels ⊎ IsLeft other.labels → IsSlotId setup (effects moves) s i
        at (inl y) = subst (λ (n : ℕ). IsSlotId setup (effects moves) n i) (one_slot setup.declared run.whole run.own y.s s y.slot slot other.labels y.slot_is slot_is y.of_slot t) y.is_slots
        at (inr y) =
            let served = declared_named setup.declared slot other.labels run.whole.owners among x.service in
            let bad : false ≡ true = sym y.0 ∙ served in absurd (cc bad)

    -- the slot's container is there, agrees with it, and is on the networks that it was seen on, or made on
    record IsThere : Type 0 where
      id : List ℕ
      is_slots : IsSlotId setup (effects moves) s id
      row : ContainerRow
      is_there : container_at last id ≡ Some row
      agreed : agrees_in setup.declared last slot row ≡ true
      kept_on : (listed : Listed) (n : List ℕ) → kept_of setup.declared setup.seen slot ≡ Some listed → list_any (bytes_eq n) listed.networks ≡ true
          → list_any (network_has_name last n) row.networks ≡ true
      made_on : (n : List ℕ) → kept_of setup.declared setup.seen slot ≡ None → IsFirstName setup.declared slot n → list_any (network_has_name last n) row.networks ≡ true

    is_there : IsThere
    is_there = at (kept_of setup.declared setup.seen slot) refl
      where
        image : (id : List ℕ) × (seen_image setup.seen slot ≡ Some id) × (image_at last slot.image ≡ Some id)
        image = image_stays aim setup first last moves run slot among

        by_kept : (listed : Listed) → kept_of setup.declared setup.seen slot ≡ Some listed → IsThere
        by_kept listed k =
            let y = kept_at setup.declared setup.seen slot listed among k in
            let x : SeenAt last listed = held.seen y.c listed y.listed_is (kept_unremoved aim setup first last moves run (effects moves) y.c listed y.listed_is y.kept) in
            let a = agrees_to setup.declared.project slot (seen_image setup.seen slot) listed.labels listed.image_id listed.state y.agrees in
            let images : Some a.image ≡ Some image.0 = sym a.image_is ∙ image.1 in
            let same : a.image ≡ image.0 = cc images in
            record {
              id = listed.id;
              is_slots = OfKept slot listed slot_is k refl;
              row = x.row;
              is_there = x.is_there;
              agreed = agrees_by setup.declared.project slot (image_at last slot.image) x.row.labels x.row.image_id x.row.report.state (record {
                image = image.0;
                image_is = image.2;
                of_slot = rw x.labels_are a.of_slot;
                hash = rw x.labels_are a.hash;
                same_image = sym same ∙ a.same_image ∙ sym x.image_is;
                here = x.lost_is ∙ a.here;
              });
              kept_on = λ other n h e.
                  let rows : Some listed ≡ Some other = sym k ∙ h in
                  let one : listed ≡ other = cc rows in
                  x.on n (subst (λ (row : Listed). list_any (bytes_eq n) row.networks ≡ true) (sym one) e);
              made_on = λ n none f. let bad : Some listed ≡ None = sym k ∙ none in absurd (cc bad);
            }

        by_made : kept_of setup.declared setup.seen slot ≡ None → IsThere
        by_made none =
            let m = made_for s slot slot_is none in
            let y : MadeAt setup last slot m.1 = held.made m.0 s slot m.1 m.2 in
            let x = y.2 in
            let own = run.own slot among in
            let images : Some y.0 ≡ Some image.0 = sym y.1 ∙ image.1 in
            let same : y.0 ≡ image.0 = cc images in
            record {
              id = m.1;
              is_slots = OfMade m.0 slot m.2;
              row = x.row;
              is_there = x.is_there;
              agreed = agrees_by setup.declared.project slot (image_at last slot.image) x.row.labels x.row.image_id x.row.report.state (record {
                image = image.0;
                image_is = image.2;
                of_slot = rw x.labels_are own.labels;
                hash = rw x.labels_are own.hash;
                same_image = sym same ∙ sym x.image_is;
                here = x.lost_is;
              });
              kept_on = λ other n h e. let bad : None ≡ Some other = sym none ∙ h in absurd (cc bad);
              made_on = λ n h f. x.on n f;
            }

        at : (o : Option Listed) → kept_of setup.declared setup.seen slot ≡ o → IsThere
        at (Some listed) k = by_kept listed k
        at None k = by_made k

    -- it is on the network of each of the slot's attaches
    attached_at : (x : IsThere) (k : ℕ) (attach : Attach) → slice_get slot.attach k ≡ Some attach
        → list_any (network_has_name last (network_name setup.declared attach)) x.row.networks ≡ true
    attached_at x k attach e = at (is_unattached basis slot k) refl
      where
        name : List ℕ
        name = network_name setup.declared attach

        joined : IsJoined setup (effects moves) last s attach → list_any (network_has_name last name) x.row.networks ≡ true
        joined j =
            let same = one_id s j.id x.id j.is_slots x.is_slots in
            let rows : Some j.on.row ≡ Some x.row = sym j.on.is_there ∙ ap (container_at last) same ∙ x.is_there in
            let one : j.on.row ≡ x.row = cc rows in
            subst (λ (row : ContainerRow). list_any (network_has_name last name) row.networks ≡ true) one j.on.on

        seen_on : (t : Bool) → not t ≡ false → t ≡ true
        seen_on true h = refl
        seen_on false h = absurd (cc h)

        has : (o : Option Listed) → kept_of setup.declared setup.seen slot ≡ o → is_unattached basis slot k ≡ false → list_any (network_has_name last name) x.row.networks ≡ true
        has (Some listed) h f = x.kept_on listed name h (seen_on (list_any (bytes_eq name) listed.networks) (rw (e, h) at f))
        has None h f =
            let at_0 : k ≡ 0 = eqb-true k 0 (seen_on (k == 0) (rw (e, h) at f)) in
            x.made_on name h (attach, subst (λ (n : ℕ). slice_get slot.attach n ≡ Some attach) at_0 e, refl)

        at : (t : Bool) → is_unattached basis slot k ≡ t → list_any (network_has_name last name) x.row.networks ≡ true
        at true h =
            let y = done (ConnectSlot s k) (rw (run.up, slot_is, h) refl) in
            joined (are_joined aim setup first moves last run y.action s k slot attach y.kind_is slot_is e (y.effect_is ∙ ap Some (good_connect s k y.reply y.good)))
        at false h = has (kept_of setup.declared setup.seen slot) refl h

    exact_at : IsExactSlot setup.declared last slot
    exact_at =
        let x = is_there in
        record {
          id = x.id;
          row = x.row;
          is_there = x.is_there;
          of_slot = x.agreed;
          attached = all_by (λ attach. list_any (network_has_name last (network_name setup.declared attach)) x.row.networks) slot.attach (attached_at x);
          only = λ i other e t. one_id s i x.id (only_its i other e t) x.is_slots;
        }

  -- each slot has exactly one container, which agrees with it and is on its networks
  pub exact_slot : (slot : Slot) → Among setup.declared.slots slot → IsExactSlot setup.declared last slot
  exact_slot slot m = let s = at_place setup.declared.slots slot m in exact_at s.0 slot s.1
