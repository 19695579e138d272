-- What a project declares is whole.
use Rattle.std.proofs.Common.{◌≡◌, ◌∙◌, ℕ, zero, suc, ◌+◌, ◌<◌, ◌≤◌, ◌^◌, ◌-◌, ◌||◌, ◌&&◌, Bool, true, false, cond, List, [], ◌∷◌, Option, Some, None, length, map, refl, sym, ap, subst, inl, inr, arith}
use Rattle.std.specs.Prelude.{flat_map, min, nat_lt, position, unwrap_or}
use Rattle.std.specs.List.{list_any, range_with_len}
use Rattle.std.specs.Option.{option_and_then, option_map, option_to_list}
use Rattle.std.specs.Str.{bytes_eq}
use Rattle.std.proofs.lemmas.List.{length-append}
use Rattle.std.proofs.lemmas.List.FromFn.{length-map-range_with_len}
use Rattle.attribute_scalars.proofs.Ordering.{by_key_ascends}
use Rattle.attribute_scalars.specs.Walks.{Entries}
use Rattle.attribute_types.specs.declared.rows.DependencyCondition.{DependencyCondition}
use Rattle.compose_words.specs.declared.options.Scale.{Scale}
use Rattle.container_specs.specs.Networks.{networks_by_name}
use Rattle.container_specs.specs.declared.networks.JoinedNetwork.{JoinedNetwork}
use Rattle.declared_resources.specs.Resources.{network_spec, networks_of, volume_spec, volumes_of}
use Rattle.declared_resources.proofs.Orders.{ascending_made}
use Rattle.declared_set.specs.Declaring.{declared_of, service_of}
use Rattle.declared_set.specs.Slots.{common_of, slot_with, slots_in, slots_of}
use Rattle.declared_set.specs.declared.LoadedProject.{LoadedProject}
use Rattle.declared_slots.specs.Counts.{bound_of, ranges_from, ranges_of, scale_of, updates_of}
use Rattle.declared_slots.specs.Needs.{condition_of, need_of, needs_of, needs_on, range_of}
use Rattle.declared_slots.specs.declared.counts.Range.{Range}
use Rattle.engine_types.specs.declared.Attach.{Attach}
use Rattle.engine_types.specs.declared.DeclaredService.{DeclaredService}
use Rattle.engine_types.specs.declared.Need.{Need}
use Rattle.engine_types.specs.declared.Slot.{Slot}
use Rattle.engine_types.specs.declared.resource.NetworkSpec.{NetworkSpec}
use Rattle.engine_types.specs.declared.resource.VolumeSpec.{VolumeSpec}
use Rattle.named_items.specs.Names.{network_name, volume_name}
use Rattle.run_model.specs.EngineRules.{Among}
use Rattle.run_model.specs.Plans.{IsWhole, is_running, is_slot_before}
use Rattle.run_model.proofs.DistinctLists.{among_map, from_flat_map, from_map}
use Rattle.service_attaches.specs.Attaches.{attach_of}
use Rattle.service_graph.specs.Cycles.{dependencies_of}
use Rattle.service_hashes.specs.declared.digest.FileDigest.{FileDigest}
use Rattle.tree_base.specs.ByteOrder.{IsAscending, first_of_each, is_before}
use Rattle.tree_base.specs.Entries.{value_at}
use Rattle.typed_project.specs.Projects.{IsInOrder}
use Rattle.typed_project.specs.declared.service.Service.{Service}
use Rattle.declared_laws.proofs.Ascending.{Up, any_of, ascending_up, from_range, or_first, or_second, range_up, up_ascends, up_flat_map, up_map}
use Rattle.declared_laws.proofs.Firsts.{firsts_distinct, found_at, same_text}

-- no need waits for the other to run
waits_for_more : (condition : DependencyCondition) → is_running (condition_of condition) ≡ false
waits_for_more DependencyCondition.Started = refl
waits_for_more DependencyCondition.Healthy = refl
waits_for_more DependencyCondition.Completed = refl

-- no number of slots that are replaced at a time is zero
some_at_a_time : (n : ℕ) → bound_of n ≡ Some 0 → ⊥
some_at_a_time zero e = cc e
some_at_a_time (suc n) e = let none : min (suc n) (2 ^ 32 - 1) ≡ 0 = cc e in omega (arith, none)

rolls_some : (f : Entries → ℕ) (updates : Option Entries) → option_and_then (λ entries. bound_of (f entries)) updates ≡ Some 0 → ⊥
rolls_some f None e = cc e
rolls_some f (Some entries) e = some_at_a_time (f entries) e

-- an attach is to a network that is there
attach_within : (networks : List NetworkSpec) (joined : JoinedNetwork) (attach : Attach) → Among (attach_of networks joined) attach → attach.network < length networks
attach_within networks joined attach m = at (position of_name networks) refl m
  where
    of_name : NetworkSpec → Bool
    of_name network = bytes_eq network.name joined.name

    at : (place : Option ℕ) → position of_name networks ≡ place
        → Among (option_to_list (option_map (λ (n : ℕ). let made : Attach = record { network = n; aliases = joined.aliases } in made) place)) attach → attach.network < length networks
    at None e n = absurd n
    at (Some place) e (inl same) = subst (λ (a : Attach). a.network < length networks) (sym same) (found_at of_name networks place e).1
    at (Some place) e (inr n) = absurd n

-- the slots that are found
abbrev the : Option Range → Range
the found = unwrap_or found (record { first = 0; count = 0 })

-- slots of one service stand by their numbers
by_number : (key : List ℕ) (n m : ℕ) → nat_lt n m ≡ true → (is_before key key || (bytes_eq key key && nat_lt n m)) ≡ true
by_number key n m e = or_second (is_before key key) (bytes_eq key key && nat_lt n m) (ap (λ b. b && nat_lt n m) (same_text key) ∙ e)

module _ (loaded : LoadedProject) (scales : List Scale) (digests : List FileDigest) where
  -- the slot of a service with a number
  abbrev pub slot_of : Service → ℕ → Slot
  slot_of service = slot_with loaded service (common_of loaded.project scales digests service)

  -- a slot of a service has one of its numbers
  pub of_service : (service : Service) (slot : Slot) → Among (slots_in loaded scales digests service) slot
      → (number : ℕ) × (number ≤ scale_of scales service) × (slot ≡ slot_of service number)
  of_service service slot m =
      let r = from_map (slot_of service) (range_with_len 1 (scale_of scales service)) slot m in
      let within = from_range 1 (scale_of scales service) r.0 r.1 in
      (r.0, omega (arith, within.1), r.2)

  -- what holds of the slots of each service holds of all
  pub each_slot : (P : Slot → Type 0) → ((service : Service) (number : ℕ) → Among loaded.project.services service → number ≤ scale_of scales service → P (slot_of service number))
      → (slot : Slot) → Among (slots_of loaded scales digests) slot → P slot
  each_slot P holds slot m =
      let s = from_flat_map (slots_in loaded scales digests) loaded.project.services slot m in
      let r = of_service s.0 slot s.2 in
      subst P (sym r.2) (holds s.0 r.0 s.1 r.1)

  slots_up : Up (λ service other. is_before service.key other.key) loaded.project.services → Up is_slot_before (slots_of loaded scales digests)
  slots_up up =
      up_flat_map is_slot_before (λ (service other : Service). is_before service.key other.key) (slots_in loaded scales digests) loaded.project.services
      (λ service m. up_map is_slot_before nat_lt (slot_of service) (range_with_len 1 (scale_of scales service))
      (λ n k h g e. by_number service.key n k e) (range_up 1 (scale_of scales service)))
      (λ service other m n e slot next h g.
      let one = of_service service slot h in
      let two = of_service other next g in
      subst (λ (s : Slot). is_slot_before s next ≡ true) (sym one.2)
      (subst (λ (s : Slot). is_slot_before (slot_of service one.0) s ≡ true) (sym two.2)
      (or_first (is_before service.key other.key) (bytes_eq service.key other.key && nat_lt one.0 two.0) e)))
      up

  services_up : Up (λ service other. is_before service.key other.key) loaded.project.services
      → Up (λ service other. is_before service.key other.key) (map service_of loaded.project.services)
  services_up up =
      up_map (λ (service other : DeclaredService). is_before service.key other.key) (λ (service other : Service). is_before service.key other.key)
      service_of loaded.project.services (λ service other m n e. e) up

  -- the slots of each service are within all slots
  ranges_within : (key : List ℕ) (services : List Service) (first : ℕ)
      → (the (value_at (ranges_from scales first services) key)).first + (the (value_at (ranges_from scales first services) key)).count
      ≤ first + length (flat_map (slots_in loaded scales digests) services)
  ranges_within key [] first = omega arith
  ranges_within key (service ∷ services) first = at (bytes_eq key service.key) (ranges_within key services (first + scale_of scales service))
    where
      all : length (flat_map (slots_in loaded scales digests) (service ∷ services)) ≡ scale_of scales service + length (flat_map (slots_in loaded scales digests) services)
      all =
          length-append (slots_in loaded scales digests service) (flat_map (slots_in loaded scales digests) services)
          ∙ ap (λ n. n + length (flat_map (slots_in loaded scales digests) services)) (length-map-range_with_len (slot_of service) 1 (scale_of scales service))

      at : (b : Bool)
          → (the (value_at (ranges_from scales (first + scale_of scales service) services) key)).first + (the (value_at (ranges_from scales (first + scale_of scales service) services) key)).count
          ≤ first + scale_of scales service + length (flat_map (slots_in loaded scales digests) services)
          → (the (cond b (Some (record { first = first; count = scale_of scales service })) (value_at (ranges_from scales (first + scale_of scales service) services) key))).first
          + (the (cond b (Some (record { first = first; count = scale_of scales service })) (value_at (ranges_from scales (first + scale_of scales service) services) key))).count
          ≤ first + length (flat_map (slots_in loaded scales digests) (service ∷ services))
      at true rest = omega (arith, all)
      at false rest = omega (arith, all, rest)

  -- what is needed is a slot that is there
  need_within : (service : Service) (need : Need) → Among (needs_of (ranges_of scales loaded.project.services) service) need
      → (need.slot < length (slots_of loaded scales digests)) × (is_running need.condition ≡ false)
  need_within service need m =
      let ranges = ranges_of scales loaded.project.services in
      let d = from_flat_map (needs_on ranges) (dependencies_of service) need m in
      let range = range_of ranges d.0.key in
      let r = from_map (need_of d.0) (range_with_len range.first range.count) need d.2 in
      let within = from_range range.first range.count r.0 r.1 in
      let bound = ranges_within d.0.key loaded.project.services 0 in
      let place : r.0 < length (slots_of loaded scales digests) = omega (arith, within.1, bound) in (
        subst (λ (n : Need). n.slot < length (slots_of loaded scales digests)) (sym r.2) place,
        subst (λ (n : Need). is_running n.condition ≡ false) (sym r.2) (waits_for_more d.0.condition),
      )

  owned : (slot : Slot) → Among (slots_of loaded scales digests) slot
      → list_any (λ service. bytes_eq service.key slot.service) (map service_of loaded.project.services) ≡ true
  owned = each_slot (λ slot. list_any (λ service. bytes_eq service.key slot.service) (map service_of loaded.project.services) ≡ true)
      (λ service number m l. any_of (λ (other : DeclaredService). bytes_eq other.key service.key) (map service_of loaded.project.services) (service_of service) (among_map service_of loaded.project.services service m) (same_text service.key))

  networks_ascend : IsAscending (λ network other. is_before network.name other.name) (networks_of loaded.project)
  networks_ascend =
      ascending_made (network_spec loaded.project.name) network_name (λ (spec : NetworkSpec). spec.name) (λ network. refl) _
      (by_key_ascends network_name (first_of_each network_name loaded.project.networks) (firsts_distinct network_name loaded.project.networks))

  volumes_ascend : IsAscending (λ volume other. is_before volume.name other.name) (volumes_of loaded.project)
  volumes_ascend =
      ascending_made (volume_spec loaded.project.name) volume_name (λ (spec : VolumeSpec). spec.name) (λ volume. refl) _
      (by_key_ascends volume_name (first_of_each volume_name loaded.project.volumes) (firsts_distinct volume_name loaded.project.volumes))

  none_rolls : (declared : DeclaredService) → Among (map service_of loaded.project.services) declared → declared.roll ≡ Some 0 → ⊥
  none_rolls declared m e =
      let r = from_map service_of loaded.project.services declared m in
      rolls_some _ (updates_of r.0) (sym (ap (λ (s : DeclaredService). s.roll) r.2) ∙ e)

  pub declares_whole : IsInOrder loaded.project.services → IsWhole (declared_of loaded scales digests)
  declares_whole order =
      let up = ascending_up (λ (service other : Service). is_before service.key other.key) loaded.project.services order in
      record {
        slots = up_ascends is_slot_before (slots_of loaded scales digests) (slots_up up);
        services = up_ascends (λ (service other : DeclaredService). is_before service.key other.key) (map service_of loaded.project.services) (services_up up);
        owners = owned;
        networks = networks_ascend;
        volumes = volumes_ascend;
        attaches = λ slot attach m. each_slot (λ s. Among s.attach attach → attach.network < length (networks_of loaded.project))
            (λ service number h l n. let r = from_flat_map (attach_of (networks_of loaded.project)) (networks_by_name loaded.project service) attach n in attach_within (networks_of loaded.project) r.0 attach r.2) slot m;
        needs = λ slot need m. each_slot (λ s. Among s.needs need → need.slot < length (slots_of loaded scales digests)) (λ service number h l n. (need_within service need n).0) slot m;
        conditions = λ slot need m. each_slot (λ s. Among s.needs need → is_running need.condition ≡ false) (λ service number h l n. (need_within service need n).1) slot m;
        rolls = none_rolls;
      }
