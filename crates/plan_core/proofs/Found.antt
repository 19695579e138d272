-- What an action needs is found under the texts that it asks for.
use Rattle.std.proofs.Common.{◌≡◌, ◌⊎◌, ℕ, zero, suc, ◌+◌, Bool, true, false, not, ◌==◌, ◌&&◌, ◌||◌, List, [], ◌∷◌, length, map, filter, ◌≤◌, bytes_eq, Option, Some, None, slice_get, unwrap_or, refl, sym, ap, ◌∙◌, subst, inl, inr, arith, ⊎_elim}
use Rattle.std.specs.Prelude.{if◌then◌else◌}
use Rattle.std.specs.List.{before_first}
use Rattle.std.specs.List.Sorted.{IsStrictlyIncreasing}
use Rattle.std.specs.Option.{option_map_or}
use Rattle.std.proofs.lemmas.Option.{slice_get_past}
use Rattle.std.proofs.lemmas.Bool.{and_parts, eqb-true}
use Rattle.std.proofs.lemmas.List.Elements.{filter_agree}
use Rattle.std.proofs.lemmas.Slice.Eq.{bytes_eq-Decides}
use Rattle.engine_types.specs.declared.ActionKind.{ActionKind}
use Rattle.engine_types.specs.declared.ActionKind.TheVariants.{MakeVolume, MakeNetwork, StopContainer, RemoveContainer, CreateSlot, ConnectSlot, StopKept, StartSlot, RemoveNetwork, RemoveVolume}
use Rattle.engine_types.specs.declared.Attach.{Attach}
use Rattle.engine_types.specs.declared.DeclaredService.{DeclaredService}
use Rattle.engine_types.specs.declared.Listed.{Listed}
use Rattle.engine_types.specs.declared.Need.{Need}
use Rattle.engine_types.specs.declared.Slot.{Slot}
use Rattle.engine_types.specs.declared.VolumeSpec.{VolumeSpec}
use Rattle.run_model.specs.EngineRules.{Among}
use Rattle.run_model.specs.Labels.{names_service}
use Rattle.run_model.specs.Numbers.{places}
use Rattle.run_model.specs.Observation.{is_up}
use Rattle.run_model.specs.Plans.{Basis, asks_restart, is_in_way, is_needed_by, needed_by, network_name, restarts_for, slot_at}
use Rattle.run_model.proofs.DistinctLists.{among_filter, among_left, among_map, among_right, at_place}
use Rattle.run_model.proofs.PlanLaws.{some_from}
use Rattle.run_model.proofs.RequestLemmas.{same_text}
use Rattle.plan_core.specs.Finding.{actions_under, asked_by_slot, asked_of, bind_sources, container_text, dependents_of, is_needed_at, is_removal, is_removal_at, needed_names, needs_removals, network_name_at, removals_in, service_key_at, service_named, service_seen, slot_name_at, slot_text, texts_of}
use Rattle.plan_core.specs.Index.{numbers_under, places_under}
use Rattle.plan_core.specs.Rows.{id_at}
use Rattle.plan_core.proofs.OrderlyPlans.{any_among, service_is}
use Rattle.plan_core.proofs.Rising.{all_that_pass, rises_from}
use Rattle.plan_core.proofs.SlotTexts.{named_text}

either : (x y : Bool) → (x || y) ≡ true → (x ≡ true) ⊎ (y ≡ true)
either true y e = inl refl
either false y e = inr e

-- a place is among those under the texts of its item
among_places : {X : Type 0} (texts : X → List (List ℕ)) (i : ℕ) (xs : List X) (b : ℕ) (x : X) (text : List ℕ)
    → slice_get xs b ≡ Some x → Among (texts x) text → Among {X = List ℕ × ℕ} (places_under texts i xs) (text, i + b)
among_places texts i [] b x text e m = absurd (cc e)
among_places {X} texts i (y ∷ ys) zero x text e m =
    let same : y ≡ x = cc e in
    let here : i ≡ i + 0 = omega arith in
    among_left (map (λ (t : List ℕ). (t, i)) (texts y)) (places_under texts (i + 1) ys) (text, i + 0)
    (subst (λ (n : ℕ). Among {X = List ℕ × ℕ} (map (λ (t : List ℕ). (t, i)) (texts y)) (text, n)) here
    (among_map (λ (t : List ℕ). (t, i)) (texts y) text (subst (λ (z : X). Among (texts z) text) (sym same) m)))
among_places texts i (y ∷ ys) (suc b) x text e m =
    let next : i + 1 + b ≡ i + suc b = omega arith in
    among_right (map (λ (t : List ℕ). (t, i)) (texts y)) (places_under texts (i + 1) ys) (text, i + suc b)
    (subst (λ (n : ℕ). Among {X = List ℕ × ℕ} (places_under texts (i + 1) ys) (text, n)) next (among_places texts (i + 1) ys b x text e m))

-- a place is found under each text of its item
pub found_under : {X : Type 0} (texts : X → List (List ℕ)) (xs : List X) (b : ℕ) (x : X) (text : List ℕ)
    → slice_get xs b ≡ Some x → Among (texts x) text → Among (numbers_under (places_under texts 0 xs) text) b
found_under texts xs b x text e m =
    let there : 0 + b ≡ b = omega arith in
    let entries = places_under texts 0 xs in
    let entry = subst (λ (n : ℕ). Among {X = List ℕ × ℕ} entries (text, n)) there (among_places texts 0 xs b x text e m) in
    among_map (λ (entry : List ℕ × ℕ). entry.1) (filter (λ (entry : List ℕ × ℕ). bytes_eq text entry.0) entries) (text, b)
    (among_filter (λ (entry : List ℕ × ℕ). bytes_eq text entry.0) entries (text, b) (same_text text) entry)

-- two lists share a text
pub record Share (texts others : List (List ℕ)) : Type 0 where
  pub text : List ℕ
  pub first : Among texts text
  pub second : Among others text

module _ (basis : Basis) where
  abbrev Finds : ActionKind → ActionKind → Type 0
  Finds kind other = is_needed_by basis kind other ≡ true → Share (asked_of basis kind) (texts_of basis other)

  abbrev rows : List Listed
  rows = basis.seen.containers

  -- the service of a container that is there
  service_at : (c : ℕ) (row : Listed) (service : List ℕ) → slice_get rows c ≡ Some row → names_service service row.labels ≡ true
      → option_map_or (λ (r : Listed). service_named r.labels) (slice_get rows c) [] ≡ service
  service_at c row service e named =
      ap (λ (o : Option Listed). option_map_or (λ (r : Listed). service_named r.labels) o []) e ∙ service_is service row.labels named

  -- what a slot asks for is what its create asks for
  asked_at : (s : ℕ) (slot : Slot) → slot_at basis.declared s ≡ Some slot → asked_of basis (CreateSlot s) ≡ asked_by_slot basis.declared slot
  asked_at s slot e = ap (λ (o : Option Slot). option_map_or (asked_by_slot basis.declared) o []) e

  removal_in_way : (s c : ℕ) → Finds (CreateSlot s) (RemoveContainer c)
  removal_in_way s c e =
      let slot = some_from _ (slot_at basis.declared s) e in
      let row = some_from (is_in_way slot.0) (slice_get rows c) slot.2 in
      let asked = asked_at s slot.0 slot.1 in
      ⊎_elim
      (λ named. record {
        text = slot_text slot.0;
        first = subst (λ (texts : List (List ℕ)). Among texts (slot_text slot.0)) (sym asked) (inl refl);
        second = inr (inl (sym (ap (λ (o : Option Listed). option_map_or container_text o []) row.1 ∙ named_text slot.0 row.0.labels named)));
      })
      (λ same. record {
        text = slot.0.name;
        first = subst (λ (texts : List (List ℕ)). Among texts slot.0.name) (sym asked) (inr (inl refl));
        second = inr (inr (inl (sym (ap (λ (o : Option Listed). option_map_or (λ (r : Listed). r.name) o []) row.1 ∙ (bytes_eq-Decides row.0.name slot.0.name).0 same))));
      })
      (either _ (bytes_eq row.0.name slot.0.name) row.2)

  network_attached : (s n : ℕ) → Finds (CreateSlot s) (MakeNetwork n)
  network_attached s n e =
      let slot = some_from _ (slot_at basis.declared s) e in
      let attach = any_among (λ (a : Attach). a.network == n) slot.0.attach slot.2 in
      record {
        text = network_name basis.declared attach.0;
        first = subst (λ (texts : List (List ℕ)). Among texts (network_name basis.declared attach.0)) (sym (asked_at s slot.0 slot.1))
            (inr (inr (among_left (map (network_name basis.declared) slot.0.attach) (bind_sources slot.0) _ (among_map (network_name basis.declared) slot.0.attach attach.0 attach.1))));
        second = inl (ap (network_name_at basis.declared) (eqb-true attach.0.network n attach.2));
      }

  volume_bound : (s v : ℕ) → Finds (CreateSlot s) (MakeVolume v)
  volume_bound s v e =
      let slot = some_from _ (slot_at basis.declared s) e in
      let volume = some_from _ (slice_get basis.declared.volumes v) slot.2 in
      let source = before_first (λ (byte : ℕ). byte == 58) in
      let binds = unwrap_or slot.0.spec.binds [] in
      let bind = any_among (λ (b : List ℕ). bytes_eq volume.0.name (source b)) binds volume.2 in
      record {
        text = source bind.0;
        first = subst (λ (texts : List (List ℕ)). Among texts (source bind.0)) (sym (asked_at s slot.0 slot.1))
            (inr (inr (among_right (map (network_name basis.declared) slot.0.attach) (bind_sources slot.0) _ (among_map source binds bind.0 bind.1))));
        second = inl (sym (ap (λ (o : Option VolumeSpec). option_map_or (λ (w : VolumeSpec). w.name) o []) volume.1 ∙ (bytes_eq-Decides volume.0.name (source bind.0)).0 bind.2));
      }

  network_joined : (s k n : ℕ) → Finds (ConnectSlot s k) (MakeNetwork n)
  network_joined s k n e =
      let slot = some_from _ (slot_at basis.declared s) e in
      let attach = some_from (λ (a : Attach). a.network == n) (slice_get slot.0.attach k) slot.2 in
      let declared = basis.declared in
      record {
        text = network_name_at declared n;
        first = inr (inl (sym (ap (λ (o : Option Slot). option_map_or (λ (t : Slot). option_map_or (network_name declared) (slice_get t.attach k) []) o []) slot.1
            ∙ ap (λ (o : Option Attach). option_map_or (network_name declared) o []) attach.1 ∙ ap (network_name_at declared) (eqb-true attach.0.network n attach.2))));
        second = inl refl;
      }

  downward : (up : Bool) (texts : List (List ℕ)) → not up ≡ true → (if up then [] else texts) ≡ texts
  downward true texts e = absurd (cc e)
  downward false texts e = refl

  dependent_removed : (c d : ℕ) → Finds (StopContainer c) (RemoveContainer d)
  dependent_removed c d e =
      let declared = basis.declared in
      let parts = and_parts (not (is_up basis.aim.purpose)) _ e in
      let row = some_from _ (slice_get rows c) parts.1 in
      let other = some_from _ (slice_get rows d) row.2 in
      let service = any_among _ declared.services other.2 in
      let named = and_parts (names_service service.0.key other.0.labels) _ service.2 in
      let key = any_among (λ (k : List ℕ). names_service k row.0.labels) service.0.depends_on named.1 in
      let place = at_place declared.services service.0 service.1 in
      let key_of = λ (o : Option DeclaredService). option_map_or (λ (t : DeclaredService). t.key) o [] in
      let same : key.0 ≡ service_seen basis.seen c = sym (service_at c row.0 key.0 row.1 key.2) in
      let found = found_under (λ (t : DeclaredService). t.depends_on) declared.services place.0 service.0 key.0 place.1 key.1 in
      let numbers = subst (λ (text : List ℕ). Among (numbers_under (dependents_of declared) text) place.0) same found in
      record {
        text = service_key_at declared place.0;
        first = subst (λ (texts : List (List ℕ)). Among texts (service_key_at declared place.0)) (sym (downward (is_up basis.aim.purpose) _ parts.0))
            (among_map (service_key_at declared) (numbers_under (dependents_of declared) (service_seen basis.seen c)) place.0 numbers);
        second = inl (ap key_of place.1 ∙ sym (service_at d other.0 service.0.key other.1 named.0));
      }

  same_slot : (s t : ℕ) → (s == t) ≡ true → slot_name_at basis.declared s ≡ slot_name_at basis.declared t
  same_slot s t e = ap (slot_name_at basis.declared) (eqb-true s t e)

  restart_started : (s t : ℕ) → Finds (StopKept s) (StartSlot t)
  restart_started s t e =
      let declared = basis.declared in
      let slot = some_from (restarts_for declared basis.seen t) (slot_at declared s) e in
      let need = any_among (λ (n : Need). (n.slot == t) && asks_restart declared basis.seen n) slot.0.needs slot.2 in
      let parts = and_parts (need.0.slot == t) _ need.2 in
      let asked : asked_of basis (StopKept s) ≡ needed_names declared slot.0 = ap (λ (o : Option Slot). option_map_or (needed_names declared) o []) slot.1 in
      record {
        text = slot_name_at declared need.0.slot;
        first = subst (λ (texts : List (List ℕ)). Among texts (slot_name_at declared need.0.slot)) (sym asked)
            (among_map (λ (n : Need). slot_name_at declared n.slot) slot.0.needs need.0 need.1);
        second = inl (same_slot need.0.slot t parts.0);
      }

  -- an action shares a text with each one that it needs
  pub finds : (kind other : ActionKind) → needs_removals kind ≡ false → Finds kind other
  finds (StopContainer c) (RemoveContainer d) h e = dependent_removed c d e
  finds (RemoveContainer c) (StopContainer d) h e = record { text = id_at rows c; first = inl refl; second = inl (ap (id_at rows) (eqb-true c d e)) }
  finds (CreateSlot s) (RemoveContainer c) h e = removal_in_way s c e
  finds (CreateSlot s) (MakeNetwork n) h e = network_attached s n e
  finds (CreateSlot s) (MakeVolume v) h e = volume_bound s v e
  finds (ConnectSlot s k) (CreateSlot t) h e = record { text = slot_name_at basis.declared s; first = inl refl; second = inl (same_slot s t e) }
  finds (ConnectSlot s k) (MakeNetwork n) h e = network_joined s k n e
  finds (StartSlot s) (CreateSlot t) h e = record { text = slot_name_at basis.declared s; first = inl refl; second = inl (same_slot s t e) }
  finds (StartSlot s) (ConnectSlot t k) h e = record { text = slot_name_at basis.declared s; first = inl refl; second = inl (same_slot s t e) }
  finds (StopKept s) (StartSlot t) h e = restart_started s t e
  finds (StartSlot s) (StopKept t) h e = record { text = slot_name_at basis.declared s; first = inl refl; second = inl (same_slot s t e) }
  finds (RemoveNetwork n) other h e = absurd (cc h)
  finds (RemoveVolume v) other h e = absurd (cc h)
  finds _ _ h e = absurd (cc e)

  -- places that hold all that are found under the texts that an action asks for: those are left whose actions it needs
  pub asked_places : (kinds : List ActionKind) (kind : ActionKind) (places : List ℕ) → needs_removals kind ≡ false → IsStrictlyIncreasing places
      → ((text : List ℕ) (place : ℕ) → Among (asked_of basis kind) text → Among (numbers_under (actions_under basis kinds) text) place → Among places place)
      → filter (is_needed_at basis kinds kind) places ≡ needed_by basis kinds kind
  asked_places kinds kind places h rises holds =
      all_that_pass (is_needed_at basis kinds kind) (length kinds) 0 places (rises_from places 0 (λ k. omega arith) rises) held past
    where
      held : (b : ℕ) → 0 ≤ b → is_needed_at basis kinds kind b ≡ true → Among places b
      held b k t =
          let other = some_from (is_needed_by basis kind) (slice_get kinds b) t in
          let share = finds kind other.0 h other.2 in
          holds share.text b share.first (found_under (texts_of basis) kinds b other.0 share.text other.1 share.second)

      past : (b : ℕ) → 0 + length kinds ≤ b → is_needed_at basis kinds kind b ≡ false
      past b k = ap (λ (o : Option ActionKind). option_map_or (is_needed_by basis kind) o false) (slice_get_past kinds b (omega (arith, k)))

  -- what needs removals needs them all
  pub all_removals : (kinds : List ActionKind) (kind : ActionKind) → needs_removals kind ≡ true → needed_by basis kinds kind ≡ removals_in kinds
  all_removals kinds kind e = filter_agree (is_needed_at basis kinds kind) (is_removal_at kinds) (λ b. at kind e (slice_get kinds b)) (places kinds)
    where
      network : (n : ℕ) (other : ActionKind) → is_needed_by basis (RemoveNetwork n) other ≡ is_removal other
      network n (MakeVolume v) = refl
      network n (MakeNetwork m) = refl
      network n (StopContainer c) = refl
      network n (RemoveContainer c) = refl
      network n (CreateSlot s) = refl
      network n (ConnectSlot s k) = refl
      network n (StopKept s) = refl
      network n (StartSlot s) = refl
      network n (RemoveNetwork m) = refl
      network n (RemoveVolume v) = refl

      volume : (w : ℕ) (other : ActionKind) → is_needed_by basis (RemoveVolume w) other ≡ is_removal other
      volume w (MakeVolume v) = refl
      volume w (MakeNetwork m) = refl
      volume w (StopContainer c) = refl
      volume w (RemoveContainer c) = refl
      volume w (CreateSlot s) = refl
      volume w (ConnectSlot s k) = refl
      volume w (StopKept s) = refl
      volume w (StartSlot s) = refl
      volume w (RemoveNetwork m) = refl
      volume w (RemoveVolume v) = refl

      at : (k : ActionKind) → needs_removals k ≡ true → (o : Option ActionKind) → option_map_or (is_needed_by basis k) o false ≡ option_map_or is_removal o false
      at k h None = refl
      at (RemoveNetwork n) h (Some other) = network n other
      at (RemoveVolume w) h (Some other) = volume w other
      at (MakeVolume v) h (Some other) = absurd (cc h)
      at (MakeNetwork m) h (Some other) = absurd (cc h)
      at (StopContainer c) h (Some other) = absurd (cc h)
      at (RemoveContainer c) h (Some other) = absurd (cc h)
      at (CreateSlot s) h (Some other) = absurd (cc h)
      at (ConnectSlot s i) h (Some other) = absurd (cc h)
      at (StopKept s) h (Some other) = absurd (cc h)
      at (StartSlot s) h (Some other) = absurd (cc h)
